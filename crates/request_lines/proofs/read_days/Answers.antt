-- `request_lines::read_days` meets its contract. Assumes nothing.
use Rattle.basis.proofs.Prelude.{arith}
use Rattle.request_lines.proofs.DayLists.{onward_start, onward_step, onward_last, onward_full}
use Rattle.request_lines.proofs.read_days.Goals as goal

pub loop-k-init : goal.loop-k-init
loop-k-init c = onward_start _ _ _

pub returns-in_default : goal.returns-in_default
returns-in_default c = onward_last c.loop-k.invariant (omega arith) c.read_number.ensures.says c.in_default.is c.last_day.ensures

pub loop-k-preserved : goal.loop-k-preserved
loop-k-preserved c = onward_step c.loop-k.invariant (omega arith) c.read_number.ensures.says c.in-Some.is

pub returns : goal.returns
returns c = onward_full c.loop-k.invariant (omega arith)
