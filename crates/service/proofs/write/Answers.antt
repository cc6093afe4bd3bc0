-- `service::write` meets its contract. Assumes nothing.
use Rattle.service.proofs.Beginning.{wrote}
use Rattle.service.proofs.write.Goals as goal

pub returns : goal.returns
returns c = wrote c.wrote.ensures c.write.ensures
