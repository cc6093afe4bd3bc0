-- What is said of the days still to come is what is said of all. Assumes nothing.
use Rattle.basis.proofs.Prelude.{◌≡◌, drop}
use Rattle.stabbing.specs.Answer.{rising_from}
use Rattle.stabbing_days.proofs.in_order.Given as goal

abbrev pub invariant-loop-day : goal.invariant-loop-day
invariant-loop-day l = rising_from l.before (drop l.day-index l.days) ≡ rising_from 0 l.days
