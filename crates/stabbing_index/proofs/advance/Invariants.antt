-- At least `count` rows begin by the day. Assumes nothing.
use Rattle.stabbing_index.proofs.Names.{◌-◌, take, AdvanceAt}
use Rattle.stabbing_index.proofs.advance.Given as goal

abbrev pub invariant-loop-count : goal.invariant-loop-count
invariant-loop-count l = AdvanceAt l.rows.first.now l.rows.last.now (take l.rows.n l.rows.first.now) (take l.rows.n l.rows.last.now) l.rows.n l.d l.count

abbrev pub decreases-loop-count : goal.decreases-loop-count
decreases-loop-count l = l.rows.n - l.count
