-- What the writer of digits puts. Assumes nothing.
use Rattle.std.specs.Prelude.{ℕ, List, ◌∷◌}
use Rattle.fields.specs.Fields.{digits_of}

-- a number of at most k + 1 digits and the byte e that ends it
abbrev pub digits_text : ℕ → ℕ → ℕ → List ℕ → List ℕ
digits_text k n e rest = digits_of k n (e ∷ rest)
