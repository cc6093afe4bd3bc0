-- The contracts of private functions. Assumes nothing.
use Rattle.std.specs.Prelude.{ℕ, ◌≡◌, List, ◌++◌, length}
use Rattle.buffer.specs.Buffer.{over}
use Rattle.requests.specs.declared.Request.{Request}
use Rattle.requests.specs.Requests.{DayList, ask_days}
use Rattle.requests.specs.Parsing.{request_of}

-- days that stand before others
abbrev pub after : List ℕ → DayList → DayList
after ds l = record { days = ds ++ l.days; whole = l.whole }

-- a list of days is asked, and stands in the first places of the lent list
pub record ReadsDays (l : DayList) (days : List ℕ) (r : Request) (days' : List ℕ) : Type 0 where
  pub request : r ≡ request_of (ask_days l)
  pub places : days' ≡ over l.days days
  pub sized : length days' ≡ length days
