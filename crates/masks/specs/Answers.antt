-- What is said of a sheet's ticked days, and what the lent list then holds. Assumes nothing.
use Rattle.std.specs.Prelude.{ℕ, true, cond, List, ◌≡◌, length, Result, Ok, Err}
use Rattle.buffer.specs.Buffer.{over}
use Rattle.calendar.specs.Calendar.{days_ok}
use Rattle.refusal.specs.declared.Refusal.{Refusal}
use Rattle.masks.specs.Masks.{ticks}

-- what is said of a sheet: how many days are ticked, or that a ticked day is off the calendar
pub data Ticks : Type 0 where
  All : ℕ → Ticks
  Off : Ticks

-- as a call returns it
abbrev pub ticks_in : Result ℕ Refusal → Ticks
ticks_in (Ok n) = All n
ticks_in (Err refusal) = Off

-- how many there are, where all are on the calendar
abbrev pub answered : List ℕ → Ticks
answered ds = cond (days_ok ds) (All (length ds)) Off

-- where all are on the calendar they stand in the first places, and otherwise the list holds what it held
abbrev pub filled : List ℕ → List ℕ → List ℕ
filled ds l = cond (days_ok ds) (over ds l) l

-- what is answered of a sheet with the list lent, which held `entry` and then holds `exit`
pub record Answer (base mask : ℕ) (r : Ticks) (entry exit : List ℕ) : Type 0 where
  pub says : r ≡ answered (ticks base mask)
  pub holds : exit ≡ filled (ticks base mask) entry

-- what the part that writes asks: days of the calendar, and a list of 64 places
pub record Room (base mask : ℕ) (days : List ℕ) : Type 0 where
  pub on : days_ok (ticks base mask) ≡ true
  pub places : length days ≡ 64
