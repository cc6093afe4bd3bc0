-- The links of the heads before k, and of the chains up to it. Assumes nothing.
use Rattle.stabbing_index.proofs.{Names.{take}, Links.{Linking}}
use Rattle.stabbing_index.proofs.link.Given as goal

abbrev pub invariant-loop-k : goal.invariant-loop-k
invariant-loop-k l = Linking l.rows.first.now l.rows.last.now (take l.rows.n l.rows.first.now) (take l.rows.n l.rows.last.now) l.rows.n l.parent l.left l.child l.next l.prev l.k
