-- `service::fresh` meets its contract. Assumes nothing.
use Rattle.basis.proofs.Prelude.{ap}
use Rattle.service.proofs.{Beginning.represents_fresh, Names.service_of}
use Rattle.service.proofs.fresh.Goals as goal

pub returns : goal.returns
returns c = record { represents = search represents_fresh; value = ap service_of c.fresh-2.ensures.whole }
