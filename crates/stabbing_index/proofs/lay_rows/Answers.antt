-- `stabbing_index::lay_rows` meets its contract: each goal is a step of `proofs/Laying.antt`. Assumes nothing.
use Rattle.stabbing_index.proofs.{Names.{sym, get_or-take, arith}, Laying.{laying_none, laying_next}, Assembling.row_none}
use Rattle.stabbing_index.proofs.lay_rows.Goals.{then-k-n, else-k-n}
use Rattle.stabbing_index.proofs.lay_rows.Goals as goal

pub loop-k-init : goal.loop-k-init
loop-k-init c = laying_none (omega arith)

pub loop-k-preserved : goal.loop-k-preserved
loop-k-preserved c = elim c.if-k-n.branch [
  | then-k-n w ↦ rw w.index-is (laying_next c.loop-k.invariant c.loop-k-test.true (sym (get_or-take _ _ _ 0 w.if-k-n.true)))
  | else-k-n w ↦ rw w.index-is (laying_next c.loop-k.invariant c.loop-k-test.true (row_none _ _ _ w.if-k-n.false))
]
