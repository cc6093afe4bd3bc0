-- `wire::carry_call` meets its contract. Assumes nothing.
use Rattle.conversations.proofs.Turns.{turn_call}
use Rattle.wire.proofs.carry_call.Goals as goal

pub returns : goal.returns
returns c = search turn_call
