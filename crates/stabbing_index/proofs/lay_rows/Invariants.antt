-- The first k words are laid. Assumes nothing.
use Rattle.stabbing_index.proofs.{Names.{take, day_at}, Laying.{Laying}}
use Rattle.stabbing_index.proofs.lay_rows.Given as goal

abbrev pub invariant-loop-k : goal.invariant-loop-k
invariant-loop-k l = Laying l.fn.index l.base 1024 (day_at (take l.n l.values)) l.k l.index
