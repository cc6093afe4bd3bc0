-- `host_wire::change` meets its contract: by whether the state was changed. Assumes nothing.
use Rattle.host_wire.proofs.Names.{change_none, change_packed, unpacked_given}
use Rattle.host_wire.proofs.change.Goals as goal
use Rattle.host_wire.proofs.change.Goals.{then-changed, else-changed}

pub carry-r-requires : goal.carry-r-requires
carry-r-requires c = unpacked_given c.args.words.now c.unpack-service.ensures c.requires.given

pub returns : goal.returns
returns c = let a = c.args in elim c.if-changed.branch [
  | then-changed w ↦ rw w.words-is (change_packed a.wanted a.words.now a.room a.days.now c.changed_at-changed.result c.unpack-service.ensures c.carry-r.ensures c.requires.word_value.0 c.requires.word_value.1 c.from.ensures c.changed_at-changed.ensures _ w.pack.ensures w.if-changed.true)
  | else-changed w ↦ rw w.words-is (change_none a.wanted a.words.now a.room a.days.now c.changed_at-changed.result c.unpack-service.ensures c.carry-r.ensures c.requires.word_value.0 c.requires.word_value.1 c.from.ensures c.changed_at-changed.ensures c.requires.given w.if-changed.false)
]
