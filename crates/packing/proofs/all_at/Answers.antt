-- `packing::all_at` meets its contract. The loop's invariant: the first i values are read. Assumes nothing.
use Rattle.basis.proofs.Prelude.{◌∙◌, ap, length-replicate, length-set, arith, refl}
use Rattle.packing.proofs.{Blocks.{drop_bounded, parts_done, parts_more}, Names.{mul_comm, parts}}
use Rattle.packing.proofs.all_at.Goals as goal

pub loop-i-init : goal.loop-i-init
loop-i-init g c = (length-replicate _ _, unfold parts in refl)

pub loop-i-preserved : goal.loop-i-preserved
loop-i-preserved g c =
    let e = rw (c.WIDTH.ensures, mul_comm) at c.saturating_mul.ensures in (
      length-set _ _ _ ∙ c.loop-i.invariant.0,
      parts_more _ _ c.args.words.now c.loop-i.x-items c.loop-i.i c.loop-i.invariant.0 c.loop-i-test.true c.loop-i.invariant.1 (c.at.ensures ∙ ap g.T.Packed.of_words (drop_bounded _ _ (omega arith) e)),
    )

pub returns : goal.returns
returns g c = parts_done _ _ c.args.words.now _ c.loop-i.i c.loop-i.auto.i-end c.loop-i-test.false c.loop-i.invariant.0 c.loop-i.invariant.1
