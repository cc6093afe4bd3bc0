use Rattle.basis.proofs.Prelude.{◌≡◌, ◌-◌, drop}
use Rattle.register_sift.proofs.Names.{after_line}
use Rattle.register_sift.proofs.after_line.Given as goal

abbrev pub invariant-loop-next : goal.invariant-loop-next
invariant-loop-next l = after_line (drop l.at l.text) ≡ after_line (drop (l.next - 1) l.text)
