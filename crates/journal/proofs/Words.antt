-- An entry's words read back as the entry. Assumes nothing.
use Rattle.basis.proofs.Prelude.{◌∙◌, ◌≡◌, ap, refl, sym, ◌+◌, ◌<◌, ◌≤◌, suc, ℕ, List, Bool, cond, false, not, true, eqb, drop, get_or, length, length-drop, length-set, set, drop-drop, get_or-drop, add-zero, add-one, add-two, arith, le-leb, lt-leb, by_test}
use mir.Val.{Val, bool_byte}
use denote.Laws.{Is}
use Rattle.packing.{specs.{Blocks.put, Words.{spell_words, spell_of, spell_long}}, proofs.{Blocks.put_sets, Words.{spell_back, spell_held}}}
pub use Rattle.journal.specs.Words.{entry_long}
use Rattle.journal.specs.{declared.Undo.Undo, Journal.blank_entry, Words.{entry_words, entry_of}}
use Rattle.journal.specs.contracts.Undo.{the_row as entry_row}

pub entry_back : (e : Undo) → spell_of (spell_words e.spell) ≡ e.spell → entry_of (entry_words e) ≡ e
entry_back e h = unfold entry_of entry_words in
    rw (le-leb 9 (length (entry_words e)) (omega (arith, entry_long e)), h) (by_test e.stood (λ s. rw s) (λ s. rw s))

-- what the checker knows of every entry that a program holds: its spell's urgency has its type's width, so that the entry reads back
pub entry_held : (e : Undo) (vs : List Val) → Is entry_row e vs → entry_of (entry_words e) ≡ e
entry_held e vs p = entry_back e (spell_back e.spell (spell_held e.spell _ p.1.1.1.1.0))

-- as the code reads it
pub entry_at : (l : List ℕ) (at : ℕ) → at + 9 ≤ length l
    → entry_of (drop at l) ≡ record { number = get_or l at 0; stood = not (eqb (get_or l (at + 1) 0) 0); spell = spell_of (drop (at + 2) l) }
entry_at l at h = unfold entry_of in simp (le-leb 9 (length (drop at l)) (omega (arith, length-drop at l)), get_or-drop, drop-drop, add-zero)

pub entry_none : (l : List ℕ) (at : ℕ) → length l < at + 9 → entry_of (drop at l) ≡ blank_entry
entry_none l at h = unfold entry_of in rw (lt-leb 9 (length (drop at l)) (omega (arith, length-drop at l)))

-- as the code writes it: two stores, and the spell's words after them
as_number : (b : Bool) → bool_byte b ≡ cond b 1 0
as_number true = refl
as_number false = refl

pub put_entry : (e : Undo) (l : List ℕ) (at : ℕ) → at + 9 ≤ length l
    → put (at + 2) (spell_words e.spell) (set (set l at e.number) (at + 1) (bool_byte e.stood)) ≡ put at (entry_words e) l
put_entry e l at h =
    rw as_number
    (sym (put_sets (at + 2) (spell_words e.spell) (set (set l at e.number) (at + 1) (cond e.stood 1 0)) (simp length-set (omega (arith, spell_long e.spell))))
    ∙ rw (add-one, add-two) (unfold entry_words in put_sets at (entry_words e) l (omega (arith, entry_long e))))
