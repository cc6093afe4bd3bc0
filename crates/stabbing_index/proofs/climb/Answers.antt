-- `stabbing_index::climb` meets its contract: each goal is a step of `proofs/Links.antt`. Assumes nothing.
use Rattle.stabbing_index.proofs.Links.{steps}
use Rattle.stabbing_index.proofs.climb.Goals as goal

pub loop-up-smaller : goal.loop-up-smaller
loop-up-smaller c = search steps

pub loop-up-preserved : goal.loop-up-preserved
loop-up-preserved c = search steps

pub returns-else-rows-up : goal.returns-else-rows-up
returns-else-rows-up c = search steps

pub returns-after-loop-up : goal.returns-after-loop-up
returns-after-loop-up c = search steps
