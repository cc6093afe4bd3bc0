use Rattle.basis.proofs.Prelude.{◌≡◌, ◌<◌, ℕ, get_or, true}
use Rattle.standing_words.proofs.{Names.{blank, spells_of}, Reading.{passes}}
use Rattle.standing_words.proofs.find.Given as goal

-- no spell before the place i has the number
abbrev pub invariant-loop-i : goal.invariant-loop-i
invariant-loop-i l = (j : ℕ) → j < l.i → passes l.k (get_or (spells_of l.words) j blank) ≡ true
