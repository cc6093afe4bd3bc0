-- The search goes down the bucket of the number that is sought. Assumes nothing.
use Rattle.stabbing_lookup.proofs.Searching.{Searching}
use Rattle.stabbing_lookup.proofs.find.Given as goal

abbrev pub invariant-loop-m : goal.invariant-loop-m
invariant-loop-m l = Searching l.index l.number l.m

abbrev pub decreases-loop-m : goal.decreases-loop-m
decreases-loop-m l = l.m
