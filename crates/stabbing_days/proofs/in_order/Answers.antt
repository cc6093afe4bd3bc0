-- `stabbing_days::in_order` meets its contract: each goal is a step of `proofs/Several.antt`. Assumes nothing.
use Rattle.basis.proofs.Prelude.{rules}
use Rattle.stabbing_days.proofs.Several.{rising_done, rising_fails, rising_on}
use Rattle.stabbing_days.proofs.in_order.Goals as goal

pub returns-then-day-before : goal.returns-then-day-before
returns-then-day-before c = search (rising_fails, rules)

pub loop-day-preserved : goal.loop-day-preserved
loop-day-preserved c = search (rising_on, rules)

pub returns : goal.returns
returns c = search (rising_done, rules)
