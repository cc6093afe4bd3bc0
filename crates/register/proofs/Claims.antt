-- What the register text is for: the round trip of reading and writing, and the length of a text. Assumes nothing.
use Rattle.register.proofs.{Names.{Good, List, Spell, [], ◌≡◌, ◌≤◌, arith, good, le-leb, length, read_text, write_all, ℕ}, Texts.{read_lines_lem, written_read, written_width}}

-- every good list is read back from its text
pub list_again : (l : List Spell) → Good l → read_text (write_all l) ≡ good l
list_again l g = unfold read_text in
    rw (le-leb (length (write_all l)) 65536 (omega (arith, written_width l g))) (read_lines_lem l [] 1024 g.each g.in_order g.unique g.few)

-- every accepted text is its list's text, byte for byte, and its list is good
pub text_again : (t : List ℕ) (l : List Spell) → read_text t ≡ good l → (write_all l ≡ t) × Good l
text_again = written_read

-- a good list's text is no longer than a text may be
pub fits : (l : List Spell) → Good l → length (write_all l) ≤ 33792
fits = written_width
