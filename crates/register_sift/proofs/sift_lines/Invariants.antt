use Rattle.basis.proofs.Prelude.{◌-◌, length}
use Rattle.register_sift.proofs.Sifting.{State}
use Rattle.register_sift.proofs.sift_lines.Given as goal

abbrev pub invariant-loop-at : goal.invariant-loop-at
invariant-loop-at l = State l.text l.fn.met l.met l.spells l.seen l.count l.lines l.at

abbrev pub decreases-loop-at : goal.decreases-loop-at
decreases-loop-at l = length l.text - l.at
