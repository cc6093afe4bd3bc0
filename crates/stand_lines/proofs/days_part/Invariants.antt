-- The loop's invariant: the lines of the days before d stand in the first places. The measure is the number of days that are left.
use Rattle.basis.proofs.Prelude.{◌≡◌, ◌-◌, length}
use Rattle.stand_text.proofs.Parts.{Filled}
use Rattle.stand_lines.proofs.days_part.Given as goal

abbrev pub invariant-loop-d : goal.invariant-loop-d
invariant-loop-d l = record { sized : length l.buf ≡ 8192; filled : Filled l.index l.from l.fn.out l.bytes l.d l.out }

abbrev pub decreases-loop-d : goal.decreases-loop-d
decreases-loop-d l = 4001 - l.d
