-- Reading on from the place i with the value v gives what was to be read. Assumes nothing.
use Rattle.decimals.proofs.Names.{◌≡◌, ◌≤◌, drop, read_digits}
use Rattle.decimals.proofs.read_digits.Given as goal

abbrev pub invariant-loop-i : goal.invariant-loop-i
invariant-loop-i l = (l.v ≤ l.limit) × (read_digits l.limit 0 (drop l.start l.text) ≡ read_digits l.limit l.v (drop l.i l.text))
