-- `wire::call_turn` meets its contract. Assumes nothing.
use Rattle.conversations.proofs.Turns.{call_turned}
use Rattle.wire.proofs.call_turn.Goals as goal

pub returns : goal.returns
returns c = call_turned c.requires.given c.requires.room_bound c.step-r.ensures c.put_reply.ensures
