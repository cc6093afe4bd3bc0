-- The rows passed have numbers of their own.
use Rattle.stabbing_cases.proofs.Building.{Owning}
use Rattle.stabbing_cases.proofs.own_numbers.Given as goal

abbrev pub invariant-loop-p : goal.invariant-loop-p
invariant-loop-p l = Owning l.index l.p
