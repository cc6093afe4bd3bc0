-- What a call makes of the words of a standing list. Assumes nothing.
use Rattle.std.specs.Prelude.{ℕ, ◌≡◌, List}
use Rattle.model.specs.declared.Call.{Call}
use Rattle.standing.specs.Standing.{Does}
use Rattle.standing.specs.Packed.{packed, unpacked}

-- words as a standing list is packed, every place
abbrev pub Laid : List ℕ → Type 0
Laid x = x ≡ packed (unpacked x)

-- the words x became x', and r is told: what the call makes of the standing list, in words that are laid out as they were
pub record EditedIn (c : Call) (x : List ℕ) (r : ℕ) (x' : List ℕ) : Type 0 where
  pub does : Does (unpacked x) c (record { standing = unpacked x'; refusal = r })
  pub laid : Laid x → Laid x'
