-- `stabbing_index::start_after` meets its contract: each goal is a step of `proofs/DayTables.antt`. Assumes nothing.
use Rattle.stabbing_index.proofs.DayTables.{steps}
use Rattle.stabbing_index.proofs.start_after.Goals as goal

pub returns-then-m-e-clause-value : goal.returns-then-m-e-clause-value
returns-then-m-e-clause-value c = search steps

pub climb-requires : goal.climb-requires
climb-requires c = search steps

pub returns-clause-value : goal.returns-clause-value
returns-clause-value c = search steps
