-- The measure of `stabbing_query::chain` is the position. Assumes nothing.
use Rattle.stabbing_query.proofs.+chain.Given as goal

abbrev pub decreases-chain : goal.decreases-chain
decreases-chain l = l.p
