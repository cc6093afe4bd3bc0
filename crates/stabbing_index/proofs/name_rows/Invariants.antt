-- The first k rows are in their buckets. Assumes nothing.
use Rattle.stabbing_index.proofs.Names.{Named, take}
use Rattle.stabbing_index.proofs.name_rows.Given as goal

abbrev pub invariant-loop-k : goal.invariant-loop-k
invariant-loop-k l = Named (take l.n l.number) l.bucket l.lower l.n l.k
