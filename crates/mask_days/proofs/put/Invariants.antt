-- As many ticked days are put as places are passed; those of the bits from i on are still to come. Assumes nothing.
use Rattle.mask_days.proofs.Ticking.{Ticking}
use Rattle.mask_days.proofs.put.Given as goal

abbrev pub invariant-loop-day : goal.invariant-loop-day
invariant-loop-day l = Ticking l.base l.mask l.fn.days l.days l.left l.i l.day-index
