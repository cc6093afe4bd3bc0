-- `register_sift::after_line` meets its contract: what follows the line is what follows it from the place before `next` on. Assumes nothing.
use Rattle.basis.proofs.Prelude.{arith}
use Rattle.register_sift.proofs.Judging.{ends_here, goes_on, ends_text}
use Rattle.register_sift.proofs.after_line.Goals as goal

pub returns-then-text-next-eq10 : goal.returns-then-text-next-eq10
returns-then-text-next-eq10 c = ends_here _ _ c.loop-next.next c.loop-next.invariant (omega arith) (omega arith) c.if-text-next-eq10.true

pub loop-next-preserved : goal.loop-next-preserved
loop-next-preserved c = goes_on c.args.text.now c.args.at c.loop-next.next c.loop-next.invariant (omega arith) (omega arith) c.if-text-next-eq10.false

pub returns : goal.returns
returns c = ends_text _ _ c.loop-next.next c.loop-next.invariant (omega arith) (omega arith) (omega arith)
