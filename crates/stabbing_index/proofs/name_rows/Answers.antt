-- `stabbing_index::name_rows` meets its contract: each goal is a step of `proofs/Laying.antt`. Assumes nothing.
use Rattle.stabbing_index.proofs.Laying.{naming}
use Rattle.stabbing_index.proofs.name_rows.Goals as goal

pub loop-k-preserved : goal.loop-k-preserved
loop-k-preserved c = search naming
