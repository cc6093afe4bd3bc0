-- `phayaklit::edit` meets its contract. Assumes nothing.
use Rattle.hosting.proofs.Host.{edited}
use Rattle.phayaklit.proofs.edit.Goals as goal

pub returns-clause-changes : goal.returns-clause-changes
returns-clause-changes c = edited c.args.words.now c.edit.new.words c.args.call c.edit.ensures c.told.ensures c.from.ensures
