-- `framing::put` meets its contract. Assumes nothing.
use Rattle.framing.proofs.{Names.{rules}, Steps.{byte_passed, byte_put}}
use Rattle.framing.proofs.put.Goals as goal

pub returns-then-n-into : goal.returns-then-n-into
returns-then-n-into c = search (byte_put, rules)

pub returns : goal.returns
returns c = search (byte_passed, rules)
