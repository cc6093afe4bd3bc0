-- `hexadecimals::put_bits` meets its contract. Assumes nothing.
use Rattle.basis.proofs.Prelude.{arith}
use Rattle.hexadecimals.proofs.Puts.{hexes_all, hexes_none, hexes_step}
use Rattle.hexadecimals.proofs.put_bits.Goals as goal

pub loop-i-init : goal.loop-i-init
loop-i-init c = hexes_none _ _ _ _ c.if-at-lt9.false c.if-buf-at.false

pub loop-i-preserved : goal.loop-i-preserved
loop-i-preserved c = hexes_step c.loop-i.invariant (omega arith) (omega arith) c.hex_digit.ensures

pub returns : goal.returns
returns c = hexes_all _ _ _ _ _ _ _ c.if-at-lt9.false c.if-buf-at.false c.loop-i.invariant (omega arith)
