-- `framing::take_line`: what the bytes from the place on make is what they made at first. Assumes nothing.
use Rattle.framing.proofs.Names.{Kept, ◌≡◌, ◌≤◌, drop, in_line, next, take}
use Rattle.framing.proofs.take_line.Given as goal

abbrev pub invariant-loop-at : goal.invariant-loop-at
invariant-loop-at l =
    (l.n ≤ 65537) × Kept l.n l.fn.line l.line
    × (next (in_line (take l.n l.line)) (drop l.at l.arrived) ≡ next (in_line (take l.fn.n l.fn.line)) (drop l.from l.arrived))
