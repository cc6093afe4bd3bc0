-- What the parts of the writer ask and give. Assumes nothing.
use Rattle.std.specs.Prelude.{◌≡◌, ℕ, ◌≤◌, List, drop, length}

-- the scratch list, with n places before the place `at`
pub record Room (buf : List ℕ) (at n : ℕ) : Type 0 where
  pub sized : length buf ≡ 35840
  pub inside : at ≤ 35840
  pub wide : n ≤ at

-- the scratch list, with the text from the place r to its end
pub record Ends (buf : List ℕ) (r : ℕ) (text : List ℕ) : Type 0 where
  pub sized : length buf ≡ 35840
  pub inside : r ≤ 35840
  pub written : drop r buf ≡ text
