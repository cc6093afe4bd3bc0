use Rattle.basis.proofs.Prelude.{◌-◌}
use Rattle.register_read.proofs.Progress.{State}
use Rattle.register_read.proofs.read.Given as goal

abbrev pub invariant-loop-at : goal.invariant-loop-at
invariant-loop-at l = State l.text l.spells l.seen l.before l.count l.at

abbrev pub decreases-loop-at : goal.decreases-loop-at
decreases-loop-at l = 1024 - l.count
