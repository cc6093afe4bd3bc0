-- Beside the marks, the first k words are laid. Assumes nothing.
use Rattle.stabbing_index.proofs.{Names.{◌+◌, get_or, last_of}, Laying.{Laying}}
use Rattle.stabbing_index.proofs.lay_marks.Given as goal

abbrev pub invariant-loop-k : goal.invariant-loop-k
invariant-loop-k l = Laying l.initial.index (l.base + 1024) 1024 (λ p. last_of l.last (get_or l.marks p 0)) l.k l.index
