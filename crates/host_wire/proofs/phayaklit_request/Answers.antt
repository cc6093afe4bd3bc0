-- `host_wire::phayaklit_request` meets its contract: what a look answers, and what is wanted of the service. Assumes nothing.
use Rattle.host_wire.proofs.Names.{done_requested, wanted_requested}
use Rattle.host_wire.proofs.phayaklit_request.Goals as goal

pub returns-in-Done : goal.returns-in-Done
returns-in-Done c = search done_requested

pub returns-in-Wants : goal.returns-in-Wants
returns-in-Wants c = search wanted_requested
