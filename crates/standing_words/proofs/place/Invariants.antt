use Rattle.basis.proofs.Prelude.{◌≡◌, ◌<◌, ℕ, get_or, true}
use Rattle.standing_words.proofs.Names.{blank, earlier_of, spells_of}
use Rattle.standing_words.proofs.place.Given as goal

-- each spell before the place i is earlier
abbrev pub invariant-loop-i : goal.invariant-loop-i
invariant-loop-i l = (j : ℕ) → j < l.i → earlier_of (get_or (spells_of l.words) j blank) l.s ≡ true
