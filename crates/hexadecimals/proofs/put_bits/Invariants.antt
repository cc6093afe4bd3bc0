-- The digits left of v put before the place i make the whole field. Assumes nothing.
use Rattle.basis.proofs.Prelude.{◌-◌}
use Rattle.hexadecimals.proofs.Puts.{Hexes}
use Rattle.hexadecimals.proofs.put_bits.Given as goal

abbrev pub invariant-loop-i : goal.invariant-loop-i
invariant-loop-i l = Hexes l.n l.initial.buf (l.at - 1) l.buf l.i l.v
