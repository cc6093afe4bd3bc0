-- The rows still to be tested decide. Assumes nothing.
use Rattle.stabbing_index.proofs.InOrder.{Rest}
use Rattle.stabbing_index.proofs.in_order.Given as goal

abbrev pub invariant-loop-k : goal.invariant-loop-k
invariant-loop-k l = Rest l.first l.last l.n l.f l.l l.k
