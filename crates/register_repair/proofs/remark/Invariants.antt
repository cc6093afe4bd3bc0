use Rattle.register_repair.proofs.Whole.{Saying}
use Rattle.register_repair.proofs.remark.Given as goal

abbrev pub invariant-loop-i : goal.invariant-loop-i
invariant-loop-i l = Saying l.met l.fn.remarks l.remarks l.i l.k
