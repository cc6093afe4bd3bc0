-- `service::unpack` meets its contract. Assumes nothing.
use Rattle.basis.proofs.Prelude.{ap}
use Rattle.service.proofs.{Names.service_of}
use Rattle.service.proofs.unpack.Goals as goal

pub returns : goal.returns
returns c = ap service_of c.unpack.ensures
