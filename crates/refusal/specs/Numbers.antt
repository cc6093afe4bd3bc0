-- The number of a refusal, and of an answer that may be one, as document 01's table has them. Assumes nothing.
use Rattle.std.specs.Prelude.{ℕ, Result, Ok, Err}
use Rattle.refusal.specs.declared.Refusal.{Refusal}
use Rattle.refusal.specs.declared.Refusal.TheVariants.{NoNumber, NoCandidate, OffCalendar, Reversed, BadUrgency, DuplicateNumber, UnknownNumber, Full, NoHistory, UnsortedDays, ShortBuffer, Malformed, OutOfOrder, NoSuchRule}
use Rattle.refusal.specs.Table.{accepted, no_number, no_candidate, off_calendar, reversed, bad_urgency, duplicate_number, unknown_number, full, no_history, unsorted_days, short_buffer, malformed, out_of_order, no_such_rule}

abbrev pub number_of : Refusal → ℕ
number_of NoNumber = no_number
number_of NoCandidate = no_candidate
number_of OffCalendar = off_calendar
number_of Reversed = reversed
number_of BadUrgency = bad_urgency
number_of DuplicateNumber = duplicate_number
number_of UnknownNumber = unknown_number
number_of Full = full
number_of NoHistory = no_history
number_of UnsortedDays = unsorted_days
number_of ShortBuffer = short_buffer
number_of Malformed = malformed
number_of OutOfOrder = out_of_order
number_of NoSuchRule = no_such_rule

-- of what was accepted or refused: 0 where it was accepted
abbrev pub number_in : {A : Type 0} → Result A Refusal → ℕ
number_in (Ok a) = accepted
number_in (Err refusal) = number_of refusal
