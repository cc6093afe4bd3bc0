-- The loop's invariant: the parts that are printed have come to day d. The measure is the number of days that are left.
use Rattle.std.proofs.Common.{◌-◌}
use Rattle.stand_text.proofs.Parts.{Printing}
use Rattle.printing.proofs.print_days.Given as goal

abbrev pub invariant-loop-d : goal.invariant-loop-d
invariant-loop-d l = Printing l.index l.d

abbrev pub decreases-loop-d : goal.decreases-loop-d
decreases-loop-d l = 4001 - l.d
