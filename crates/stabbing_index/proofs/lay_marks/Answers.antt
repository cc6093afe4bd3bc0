-- `stabbing_index::lay_marks` meets its contract: each goal is a step of `proofs/Laying.antt`. Assumes nothing.
use Rattle.stabbing_index.proofs.Laying.{laying_none, steps}
use Rattle.stabbing_index.proofs.Names.{arith}
use Rattle.stabbing_index.proofs.lay_marks.Goals as goal

pub loop-k-init : goal.loop-k-init
loop-k-init c = laying_none (omega arith)

pub loop-k-preserved : goal.loop-k-preserved
loop-k-preserved c = search steps
