-- `list_publishing::lay` meets its contract: the columns of a list that stands, in the order, can be published. Assumes nothing.
use Rattle.list_publishing.proofs.Laying.{indexed}
use Rattle.list_publishing.proofs.lay.Goals as goal

pub returns : goal.returns
returns c = indexed c.requires c.args.rule c.columns-n.ensures c.lay.ensures
