-- `stabbing_index::link` meets its contract: each goal is a step of `proofs/Links.antt`. Assumes nothing.
use Rattle.stabbing_index.proofs.Links.{steps}
use Rattle.stabbing_index.proofs.link.Goals.{then-is_head, else-is_head}
use Rattle.stabbing_index.proofs.link.Goals as goal

pub loop-k-init : goal.loop-k-init
loop-k-init c = search steps

pub link_head-requires : goal.link_head-requires
link_head-requires c = search steps

pub loop-k-preserved : goal.loop-k-preserved
loop-k-preserved c = elim c.if-is_head.branch [
  | then-is_head w ↦ rw (w.parent-is, w.left-is, w.child-is, w.next-is, w.prev-is) (search steps)
  | else-is_head w ↦ rw (w.parent-is, w.left-is, w.child-is, w.next-is, w.prev-is) (search steps)
]
