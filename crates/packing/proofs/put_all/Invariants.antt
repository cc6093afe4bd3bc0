use Rattle.basis.proofs.Prelude.{take}
use Rattle.packing.proofs.Names.{PutAll}
use Rattle.packing.proofs.put_all.Given as goal

abbrev pub invariant-loop-i : goal.invariant-loop-i
invariant-loop-i g l = PutAll g.T.Packed.words_of g.T.Packed.of_words (take l.i l.values) l.fn.out l.out
