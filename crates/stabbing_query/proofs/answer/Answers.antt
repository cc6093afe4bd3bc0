-- `stabbing_query::answer` meets its contract: each goal is a step of `proofs/Answering.antt`. Assumes nothing.
use Rattle.basis.proofs.Prelude.{rules}
use Rattle.stabbing_query.proofs.Answering.{starts, too_short, all_given}
use Rattle.stabbing_query.proofs.answer.Goals as goal

pub climb-s-requires : goal.climb-s-requires
climb-s-requires c = search (starts, rules)

pub returns-then-out-k : goal.returns-then-out-k
returns-then-out-k c = search (too_short, rules)

pub returns : goal.returns
returns c = search (all_given, rules)
