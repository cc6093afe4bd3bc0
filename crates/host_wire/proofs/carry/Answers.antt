-- `host_wire::carry` meets its contract: held back, an edit, or anything else. Assumes nothing.
use Rattle.host_wire.proofs.Names.{◌≡◌, ◌∙◌, sym, arith, changed_requested, edits_requested, held_requested}
use Rattle.host_wire.proofs.carry.Goals as goal
use Rattle.host_wire.proofs.carry.Goals.{in_default-via-in-Call+else-word-lt-AFTER_EDITS, in_default-via-in_default}

pub returns-then-number-allowed : goal.returns-then-number-allowed
returns-then-number-allowed c = held_requested c.args.wanted c.args.days.now c.wanted_word-word.ensures c.power_of-power.ensures (omega arith) c.held_back.ensures

pub returns-in-Call : goal.returns-in-Call
returns-in-Call c = edits_requested c.args.wanted c.args.days.now c.wanted_word-word.ensures c.power_of-power.ensures c.in-Call.is (omega arith) c.requires c.edit.ensures

pub returns-in_default : goal.returns-in_default
returns-in_default c =
    let same : c.in_default.wanted ≡ c.args.wanted = elim c.in_default.branch [ in_default-via-in-Call+else-word-lt-AFTER_EDITS w ↦ w.wanted-is ∙ sym w.in-Call.is | in_default-via-in_default w ↦ w.wanted-is ] in
    changed_requested c.args.wanted c.args.days.now c.wanted_word-word.ensures c.power_of-power.ensures (omega arith) (rw same at c.change.ensures)
