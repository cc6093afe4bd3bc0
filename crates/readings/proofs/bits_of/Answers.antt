-- `readings::bits_of` meets its contract. Assumes nothing.
-- what the test `x != x` tells
use Rattle.basis.proofs.Prelude.{◌≡◌, false, not, T, true≢false}
use lib.Ieee.{Float, nan, inf, fin, ne, is_nan, to_bits, Compare.differs_from_itself}
use Rattle.readings.proofs.bits_of.Goals as goal

no_nan : (x : Float) → ne x x ≡ false → T (not (is_nan x))
unfolding ne is_nan
no_nan nan h = absurd (true≢false h)
no_nan (inf s) h = tt
no_nan (fin s m e) h = tt

pub returns-then-x : goal.returns-then-x
unfolding to_bits
returns-then-x c = rw (differs_from_itself c.args.x (rw c.if-x.true tt))

pub float_to_bits-result : goal.float_to_bits-result
unfolding to_bits
float_to_bits-result c = no_nan c.args.x c.if-x.false
