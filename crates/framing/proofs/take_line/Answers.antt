-- `framing::take_line` meets its contract. Assumes nothing.
use Rattle.framing.proofs.{Names.{arith}, Steps.{kept_on, line_ends, line_on, next_end}}
use Rattle.framing.proofs.take_line.Goals as goal

pub returns-then-b-eq10 : goal.returns-then-b-eq10
returns-then-b-eq10 c = search (line_ends, kept_on, arith)

pub loop-at-preserved : goal.loop-at-preserved
loop-at-preserved c = search (line_on, kept_on, arith)

pub returns : goal.returns
returns c = search (next_end, arith)
