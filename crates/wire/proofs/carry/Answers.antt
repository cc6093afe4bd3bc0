-- `wire::carry` meets its contract: a call and a reading, each as its own. Assumes nothing.
use Rattle.basis.proofs.Prelude.{arith}
use Rattle.conversations.proofs.Turns.{carries_call, carries_read}
use Rattle.wire.proofs.carry.Goals as goal

pub returns-in-Call : goal.returns-in-Call
returns-in-Call c = search (carries_call, c.carry_call.ensures, arith)

pub returns-in-Read : goal.returns-in-Read
returns-in-Read c = search carries_read
