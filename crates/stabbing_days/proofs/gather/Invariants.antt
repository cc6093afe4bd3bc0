use Rattle.stabbing_days.proofs.Several.{Going}
use Rattle.stabbing_days.proofs.gather.Given as goal

abbrev pub invariant-loop-i : goal.invariant-loop-i
invariant-loop-i l = Going l.index l.days l.fn.answer l.answer l.begun l.at l.i
