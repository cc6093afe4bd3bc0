-- `stabbing_index::in_order` meets its contract: each goal is a step of `proofs/InOrder.antt`. Assumes nothing.
use Rattle.stabbing_index.proofs.InOrder.{steps}
use Rattle.stabbing_index.proofs.in_order.Goals as goal

pub returns-then-not-follows : goal.returns-then-not-follows
returns-then-not-follows c = search steps

pub loop-k-preserved : goal.loop-k-preserved
loop-k-preserved c = search steps

pub returns : goal.returns
returns c = search steps
