-- `host_wire::edit` meets its contract. Assumes nothing.
use Rattle.host_wire.proofs.Names.{edit_carried}
use Rattle.host_wire.proofs.edit.Goals as goal

pub returns : goal.returns
returns c = edit_carried c.args.call c.changed_at.result c.args.room c.requires.word_value c.requires.word_bound (search) c.from.ensures c.changed_at.ensures c.edit_turn-place.ensures
