-- A refusal's number is not that of what is accepted. Assumes nothing.
use Rattle.std.proofs.Common.{◌≡◌, arith}
use Rattle.refusal.specs.declared.Refusal.{Refusal}
use Rattle.refusal.specs.declared.Refusal.TheVariants.{NoNumber, NoCandidate, OffCalendar, Reversed, BadUrgency, DuplicateNumber, UnknownNumber, Full, NoHistory, UnsortedDays, ShortBuffer, Malformed, OutOfOrder, NoSuchRule}
use Rattle.refusal.specs.Numbers.{number_of}

pub refused : (r : Refusal) → number_of r ≡ 0 → ⊥
refused NoNumber h = omega arith
refused NoCandidate h = omega arith
refused OffCalendar h = omega arith
refused Reversed h = omega arith
refused BadUrgency h = omega arith
refused DuplicateNumber h = omega arith
refused UnknownNumber h = omega arith
refused Full h = omega arith
refused NoHistory h = omega arith
refused UnsortedDays h = omega arith
refused ShortBuffer h = omega arith
refused Malformed h = omega arith
refused OutOfOrder h = omega arith
refused NoSuchRule h = omega arith
