-- The days that a sheet ticks (document 02, W2). Assumes nothing.
use Rattle.std.specs.Prelude.{ℕ, zero, suc, ◌+◌, ◌/◌, ◌%◌, ◌^◌, Bool, cond, List, [], ◌∷◌, eqb}

-- whether bit i of a mask is set, bit 0 the lowest
unfoldable pub is_set : ℕ → ℕ → Bool
is_set mask i = eqb (mask / 2 ^ i % 2) 1

-- the days base + i of those bits that are set, of the n bits from i on
unfoldable pub ticks_from : ℕ → ℕ → ℕ → ℕ → List ℕ
ticks_from base mask i zero = []
ticks_from base mask i (suc n) = cond (is_set mask i) ((base + i) ∷ ticks_from base mask (suc i) n) (ticks_from base mask (suc i) n)

-- the ticked days of a sheet: of 64 bits, bit i is the day base + i
abbrev pub ticks : ℕ → ℕ → List ℕ
ticks base mask = ticks_from base mask 0 64
