-- `stabbing_index::advance` meets its contract: each goal is a step of `proofs/DayTables.antt`. Assumes nothing.
use Rattle.stabbing_index.proofs.DayTables.{steps}
use Rattle.stabbing_index.proofs.advance.Goals as goal

pub loop-count-preserved : goal.loop-count-preserved
loop-count-preserved c = search steps

pub returns-else-from-d-clause-value : goal.returns-else-from-d-clause-value
returns-else-from-d-clause-value c = search steps

pub returns-after-loop-count-clause-value : goal.returns-after-loop-count-clause-value
returns-after-loop-count-clause-value c = search steps
