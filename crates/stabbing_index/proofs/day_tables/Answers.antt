-- `stabbing_index::day_tables` meets its contract: each goal is a step of `proofs/DayTables.antt`. Assumes nothing.
use Rattle.stabbing_index.proofs.DayTables.{steps}
use Rattle.stabbing_index.proofs.day_tables.Goals as goal

pub loop-d-init : goal.loop-d-init
loop-d-init c = search steps

pub advance-e-requires : goal.advance-e-requires
advance-e-requires c = search steps
