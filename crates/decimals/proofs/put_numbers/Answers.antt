-- `decimals::put_numbers` meets its contract. Assumes nothing.
use Rattle.decimals.proofs.{Names.{arith, puts_before}, Rows.{rest_all, rest_none, rest_one}}
use Rattle.decimals.proofs.put_numbers.Goals as goal

pub returns-then-at-numbers : goal.returns-then-at-numbers
returns-then-at-numbers c = puts_before _ _ _ _ (omega arith)

pub loop-others-init : goal.loop-others-init
loop-others-init c = rest_none (omega arith) c.if-buf-at.false (cc (c.rev.ensures.source, c.enumerate-others-items.ensures.source)) (cc c.enumerate-others-items.ensures.count)

pub loop-others-preserved : goal.loop-others-preserved
loop-others-preserved c =
    let step = c.in-Some.ensures.steps in
    rest_one (omega arith) c.if-buf-at.false c.loop-others.invariant _ step.0 step.2 (cc (step.1, c.end_before.ensures)) c.put_number-place.ensures

pub returns : goal.returns
returns c = rest_all (omega arith) c.if-buf-at.false c.loop-others.invariant c.in-None.ensures.steps.0.0
