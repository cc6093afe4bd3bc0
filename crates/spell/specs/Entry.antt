-- The checks of an entry: which number of the refusal table a spell meets first, of 1 to 5. Assumes nothing.
use Rattle.std.specs.Prelude.{ℕ, Bool, not, ◌&&◌, cond, leb, ltb, eqb, Float}
use Rattle.std.specs.Float.{binary32}
use Rattle.std.specs.Float.Ieee.{is_nan, to_bits}
use Rattle.calendar.specs.Calendar.{is_day}
use Rattle.refusal.specs.Table.{accepted, no_number, no_candidate, off_calendar, reversed, bad_urgency}
use Rattle.spell.specs.declared.Urgency.{Urgency}
use Rattle.spell.specs.declared.Urgency.TheVariants.{Grade, Reading}
use Rattle.spell.specs.declared.Spell.{Spell}

-- an accepted reading: no NaN, and its IEEE 754 bits, as an unsigned number, are at most those of 1000.0
abbrev pub reading_ok : Float → Bool
reading_ok x = not (is_nan x) && leb (to_bits binary32 x) 0x447A_0000

-- a listed grade, 1 to 4, or an accepted reading
abbrev pub urgency_ok : Urgency → Bool
urgency_ok (Grade g) = leb 1 g && leb g 4
urgency_ok (Reading x) = reading_ok x

-- the first check that refuses the spell
abbrev pub refusal_of : Spell → ℕ
refusal_of s =
    cond (eqb s.number 0) no_number
    (cond (eqb s.candidate 0) no_candidate
    (cond (not (is_day s.first && is_day s.last)) off_calendar
    (cond (ltb s.last s.first) reversed
    (cond (not (urgency_ok s.urgency)) bad_urgency accepted))))
