-- The rows passed have numbers of their own, and with them the row that is looked at.
use Rattle.std.proofs.Common.{arith}
use Rattle.stabbing_cases.proofs.Building.{more}
use Rattle.stabbing_cases.proofs.own_numbers.Goals as goal

pub loop-p-preserved : goal.loop-p-preserved
loop-p-preserved c = more c.requires c.loop-p.invariant (omega arith) c.find.ensures.value c.if-find-p.false
