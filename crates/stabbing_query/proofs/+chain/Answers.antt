-- `stabbing_query::chain` meets its contract: each goal is a step of `proofs/Walking.antt`. Assumes nothing.
use Rattle.stabbing_query.proofs.Walking.{ends, falls_on, asks, goes_on}
use Rattle.stabbing_query.proofs.+chain.Goals as goal

-- the comparison with the next
pub returns-then-last-l : goal.returns-then-last-l
returns-then-last-l t c = search ends

-- the next
pub chain-requires : goal.chain-requires
chain-requires t c = search (falls_on, asks)

pub returns : goal.returns
returns t c = search goes_on
