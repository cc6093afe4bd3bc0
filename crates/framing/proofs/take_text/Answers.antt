-- `framing::take_text` meets its contract. Assumes nothing.
use Rattle.framing.proofs.{Names.{arith, ◌<◌, ◌≤◌}, Steps.{kept_on, text_on, text_part, text_whole}}
use Rattle.framing.proofs.take_text.Goals as goal

pub returns-then-arrived-at : goal.returns-then-arrived-at
returns-then-arrived-at c =
    let some : 0 < c.loop.left = omega (arith, c.loop.invariant.2, c.loop-test.true) in
    search (text_part, arith)

pub loop-preserved : goal.loop-preserved
loop-preserved c =
    let some : 0 < c.loop.left = omega (arith, c.loop.invariant.2, c.loop-test.true) in
    search (text_on, kept_on, arith)

pub returns : goal.returns
returns c =
    let none : c.loop.left ≤ 0 = omega (arith, c.loop.invariant.2, c.loop-test.false) in
    search (text_whole, arith)
