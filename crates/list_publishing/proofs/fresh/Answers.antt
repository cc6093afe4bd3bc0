-- `list_publishing::fresh` meets its contract. Assumes nothing.
use Rattle.list_publishing.proofs.Laying.{no_rows}
use Rattle.list_publishing.proofs.fresh.Goals as goal

pub returns : goal.returns
returns c = no_rows c.build.ensures
