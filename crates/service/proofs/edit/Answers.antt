-- `service::edit` meets its contract. Assumes nothing.
use Rattle.service.proofs.Editing.{changes}
use Rattle.service.proofs.edit.Goals as goal

pub returns : goal.returns
returns c = changes c.args.service c.args.call c.edit-e.result.standing c.edit-e.ensures c.told.ensures
