-- Positions, and columns whose places are given by their position. Assumes nothing.
use Rattle.std.specs.Prelude.{ℕ, zero, suc, List, [], ◌∷◌, ◌++◌, map, drop}

-- n positions, from k on
unfoldable pub positions : ℕ → ℕ → List ℕ
positions k zero = []
positions k (suc n) = k ∷ positions (suc k) n

-- a list whose first n places hold what f gives of each place, and the others what they held
unfoldable pub filled : (ℕ → ℕ) → ℕ → List ℕ → List ℕ
filled f n l = map f (positions 0 n) ++ drop n l
