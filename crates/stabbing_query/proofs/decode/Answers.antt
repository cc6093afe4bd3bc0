-- `stabbing_query::decode` meets its contract. Assumes nothing.
use Rattle.basis.proofs.Prelude.{sym}
use Rattle.stabbing_query.proofs.Answering.{decoded_none, decoded_all}
use Rattle.stabbing_query.proofs.decode.Goals as goal

pub returns-then-at-gt1024 : goal.returns-then-at-gt1024
returns-then-at-gt1024 c = sym (decoded_none _ c.if-at-gt1024.true)

pub returns : goal.returns
returns c = sym (decoded_all _ c.if-at-gt1024.false)
