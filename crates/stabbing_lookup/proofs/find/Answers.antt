-- `stabbing_lookup::find` meets its contract: each goal is a step of `proofs/Searching.antt`. Assumes nothing.
use Rattle.basis.proofs.Prelude.{arith}
use Rattle.stabbing_lookup.proofs.Searching.{begins, found, falls, goes_on, ends}
use Rattle.stabbing_lookup.proofs.find.Goals as goal

pub loop-m-init : goal.loop-m-init
loop-m-init c = search begins

pub returns-then-index-p-clause-value : goal.returns-then-index-p-clause-value
returns-then-index-p-clause-value c = search (found, arith)

pub loop-m-smaller : goal.loop-m-smaller
loop-m-smaller c = search falls

pub loop-m-preserved : goal.loop-m-preserved
loop-m-preserved c = search goes_on

pub returns-clause-value : goal.returns-clause-value
returns-clause-value c = search (ends, arith)
