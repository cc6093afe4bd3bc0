-- Which answers have bytes. Assumes nothing.
use Rattle.std.specs.Prelude.{◌≤◌, length}
use Rattle.model.specs.Model.{Answer}

-- each number of an answer has a decimal, and its lists are as long as it says
pub record Fits (a : Answer) : Type 0 where
  pub count : a.count ≤ 1024
  pub listed : a.count ≤ length a.numbers
  pub comparisons : a.comparisons ≤ 65535
  pub ticked : a.ticked ≤ 65535
  pub bytes : a.length ≤ 65535
  pub written : a.length ≤ length a.text
