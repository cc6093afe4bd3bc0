-- The way up from the mark m, at the mark `up`, which falls. Assumes nothing.
use Rattle.stabbing_index.proofs.{Names.{take}, Links.{Climbing}}
use Rattle.stabbing_index.proofs.climb.Given as goal

abbrev pub invariant-loop-up : goal.invariant-loop-up
invariant-loop-up l = Climbing l.rows.first.now l.rows.last.now (take l.rows.n l.rows.first.now) (take l.rows.n l.rows.last.now) l.rows.n l.parent l.l l.m l.up l.left

abbrev pub decreases-loop-up : goal.decreases-loop-up
decreases-loop-up l = l.up
