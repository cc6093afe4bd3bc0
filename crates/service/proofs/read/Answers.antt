-- `service::read` meets its contract: a refused text makes a fresh start. Assumes nothing.
use Rattle.service.proofs.Beginning.{begins_read}
use Rattle.service.proofs.read.Goals as goal

pub returns-in-Ok : goal.returns-in-Ok
returns-in-Ok c = begins_read c.args.text.now c.in-Ok.ensures c.loaded.ensures c.fresh.ensures

pub returns-in-Err : goal.returns-in-Err
returns-in-Err c = begins_read c.args.text.now c.in-Err.ensures c.fresh-in-Err.ensures.whole c.fresh.ensures
