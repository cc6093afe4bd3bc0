use Rattle.basis.proofs.Prelude.{take}
use Rattle.register_write.proofs.Backward.{Back}
use Rattle.register_write.proofs.write.Given as goal

abbrev pub invariant-loop-s : goal.invariant-loop-s
invariant-loop-s l = Back (take l.count l.fn.spells) l.s-iterator.iter.rest.now l.buf l.at
