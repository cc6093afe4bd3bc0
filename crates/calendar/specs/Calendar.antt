-- The calendar, and lists of its days (document 01, "A spell" and "The four questions"). Assumes nothing.
use Rattle.std.specs.Prelude.{ℕ, Bool, true, ◌&&◌, List, [], ◌∷◌, leb}

-- a day of the calendar, 1 to 4,000
abbrev pub is_day : ℕ → Bool
is_day d = leb 1 d && leb d 4000

-- every day of a list is on the calendar
unfoldable pub days_ok : List ℕ → Bool
days_ok [] = true
days_ok (d ∷ ds) = is_day d && days_ok ds
