-- `mask_days::put` meets its contract: each goal is a step of `proofs/Ticking.antt`. Assumes nothing.
use Rattle.basis.proofs.Prelude.{◌∙◌, arith}
use Rattle.std.proofs.lemmas.List.{set-get_or}
use Rattle.mask_days.proofs.Ticking.{turn, goes_on, ends, ends_full}
use Rattle.mask_days.proofs.put.Goals as goal

pub returns-then-left-eq0 : goal.returns-then-left-eq0
returns-then-left-eq0 c = set-get_or _ _ _ ∙ ends c.loop-day.invariant c.if-left-eq0.true

pub overflow_cast-day : goal.overflow_cast-day
overflow_cast-day c = record { fits = omega (arith, c.from.ensures, turn c.loop-day.invariant c.if-left-eq0.false) }

pub loop-day-preserved : goal.loop-day-preserved
loop-day-preserved c = rw c.from.ensures (goes_on c.loop-day.invariant c.if-left-eq0.false (omega arith))

pub returns : goal.returns
returns c = search (ends_full, arith)
