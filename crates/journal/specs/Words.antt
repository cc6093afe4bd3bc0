-- An entry of the journal in nine words of 16 bits, and the entry of any words. Assumes nothing.
use Rattle.std.specs.Prelude.{ℕ, suc, not, ◌≡◌, cond, List, ◌∷◌, eqb, leb, length, get_or, drop}
use Rattle.packing.specs.{Layout.entry_width, Words.{spell_words, spell_of, spell_long}}
use Rattle.std.proofs.Common.{ap}
use Rattle.journal.specs.declared.Undo.{Undo}
use Rattle.journal.specs.Journal.{blank_entry}

-- its number, 1 or 0 for a spell that stood or none, and the spell's words
unfoldable pub entry_words : Undo → List ℕ
entry_words e = e.number ∷ cond e.stood 1 0 ∷ spell_words e.spell

pub entry_long : (e : Undo) → length (entry_words e) ≡ entry_width
unfolding entry_words
entry_long e = ap (λ n. suc (suc n)) (spell_long e.spell)

-- the entry of the first nine words; one of zeros where there are fewer
unfoldable pub entry_of : List ℕ → Undo
entry_of l = cond (leb 9 (length l)) (record { number = get_or l 0 0; stood = not (eqb (get_or l 1 0) 0); spell = spell_of (drop 2 l) }) blank_entry
