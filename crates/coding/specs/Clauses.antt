-- What the contracts of private functions say of a code. Assumes nothing.
use Rattle.std.specs.Prelude.{ℕ, ◌≤◌}
use Rattle.coding.specs.declared.Code.{Code}

-- the lists have as many places left as a code is lent
pub record Room (c : Code) (days numbers text : ℕ) : Type 0 where
  pub for_days : c.days ≤ days
  pub for_numbers : c.numbers ≤ numbers
  pub for_text : c.text ≤ text
