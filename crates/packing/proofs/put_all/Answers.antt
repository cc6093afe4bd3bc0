-- `packing::put_all` meets its contract. The loop's invariant: the words of the first i values are put. Assumes nothing.
use Rattle.basis.proofs.Prelude.{◌≡◌, ◌*◌, ◌<◌, ◌≤◌, length, refl, sym, arith, rules}
use Rattle.packing.proofs.{Blocks.{put_done, put_more, put_nothing, put_short}, Names.mul_comm}
use Rattle.packing.proofs.put_all.Goals as goal

pub returns-in_default : goal.returns-in_default
returns-in_default g c = let e = rw c.WIDTH.ensures at c.in_default.ensures in
    put_short _ _ g.met.T.Packed.long _ _ _ refl (omega arith)

pub returns-then-out-n : goal.returns-then-out-n
returns-then-out-n g c = put_short _ _ g.met.T.Packed.long _ _ _ refl (rw (← c.WIDTH.ensures) (omega (arith, c.in-Some.ensures.1)))

pub loop-i-init : goal.loop-i-init
loop-i-init g c = put_nothing _ _ g.met.T.Packed.long _

pub loop-i-preserved : goal.loop-i-preserved
loop-i-preserved g c =
    put_more _ _ g.met.T.Packed.long _ _ c.loop-i.i c.index-values-i.result refl
    (rw (← c.WIDTH.ensures) (omega (arith, c.in-Some.ensures.1))) c.loop-i-test.true (rw c.WIDTH-in-loop-i.ensures (mul_comm _ _)) c.index-values-i.is c.loop-i.invariant c.put.ensures

pub returns : goal.returns
returns g c = put_done _ _ g.met.T.Packed.long _ _ c.loop-i.i refl (omega arith) c.loop-i.invariant
