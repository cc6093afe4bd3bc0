-- `service::pack` meets its contract: the words are those of its standing list. Assumes nothing.
use Rattle.basis.proofs.Prelude.{ap}
use Rattle.service.proofs.{Names.service_of}
use Rattle.service.proofs.pack.Goals as goal

pub returns : goal.returns
returns c = record { words = c.pack.ensures.words; back = ap service_of c.pack.ensures.back }
