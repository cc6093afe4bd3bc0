-- The digits of v put before the place i make the whole field. Assumes nothing.
use Rattle.decimals.proofs.Puts.{Digits}
use Rattle.decimals.proofs.put_decimal.Given as goal

abbrev pub invariant-loop-v : goal.invariant-loop-v
invariant-loop-v l = Digits l.after l.n l.initial.buf l.initial.i l.buf l.i l.v

abbrev pub decreases-loop-v : goal.decreases-loop-v
decreases-loop-v l = l.v
