-- `stabbing_days::gather` meets its contract: each goal is a step of `proofs/Several.antt`. Assumes nothing.
use Rattle.basis.proofs.Prelude.{rules}
use Rattle.stabbing_days.proofs.Several.{begins, ends, some_left, asks_day, begun_word, small, goes_on}
use Rattle.stabbing_days.proofs.gather.Goals as goal

pub loop-i-init : goal.loop-i-init
loop-i-init c = search begins

pub add-at-requires : goal.add-at-requires
add-at-requires c = search (some_left, asks_day)

pub overflow_add-at : goal.overflow_add-at
overflow_add-at c = search (small, rules)

pub bounds-index-from : goal.bounds-index-from
bounds-index-from c = search (begun_word, rules)

pub loop-i-preserved : goal.loop-i-preserved
loop-i-preserved c = goes_on c.loop-i.invariant c.loop-i-test.true c.add-at.ensures c.from.ensures c.from-begun.ensures

pub returns : goal.returns
returns c = search ends
