-- `register_repair::remark` meets its contract: the remarks of i lines are written. Assumes nothing.
use Rattle.register_repair.proofs.Whole.{saying_none, passes_over, one_place, next_place, says_one, all_said}
use Rattle.register_repair.proofs.remark.Goals as goal
use Rattle.register_repair.proofs.remark.Goals.{then-number-ne0, else-number-ne0}

pub bounds-remarks-k : goal.bounds-remarks-k
bounds-remarks-k c = search one_place

pub bounds-remarks-k-then-number-ne0 : goal.bounds-remarks-k-then-number-ne0
bounds-remarks-k-then-number-ne0 c = search next_place

pub loop-i-preserved : goal.loop-i-preserved
loop-i-preserved c = elim c.if-number-ne0.branch [
  | then-number-ne0 w ↦ rw (w.remarks-is, w.k-is) (search says_one)
  | else-number-ne0 w ↦ rw (w.remarks-is, w.k-is) (search passes_over)
]

pub returns : goal.returns
returns c = search all_said
