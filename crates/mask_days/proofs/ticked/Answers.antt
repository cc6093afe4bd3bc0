-- `mask_days::ticked` meets its contract. Assumes nothing.
use Rattle.mask_days.proofs.Ticking.{off, all}
use Rattle.mask_days.proofs.ticked.Goals as goal

pub returns-then-not-on_calendar-clause-answer : goal.returns-then-not-on_calendar-clause-answer
returns-then-not-on_calendar-clause-answer c = search off

pub returns-clause-answer : goal.returns-clause-answer
returns-clause-answer c = search all
