-- `mask_days::on_calendar` meets its contract: the lowest and the highest ticked day decide. Assumes nothing.
use Rattle.basis.proofs.Prelude.{◌∙◌, lt-leb}
use Rattle.mask_days.proofs.Ticking.{empty_on, low_off, high_on}
use Rattle.mask_days.proofs.on_calendar.Goals as goal

pub returns-then-mask-eq0 : goal.returns-then-mask-eq0
returns-then-mask-eq0 c = search empty_on

pub returns-then-lowest-ge1 : goal.returns-then-lowest-ge1
returns-then-lowest-ge1 c = rw c.from-2.ensures (high_on _ _ c.if-mask-eq0.false c.ranges.mask.fits (rw c.from.ensures at c.if-lowest-ge1.true))

pub returns-else-lowest-ge1 : goal.returns-else-lowest-ge1
returns-else-lowest-ge1 c = lt-leb 1 _ c.if-lowest-ge1.false ∙ low_off _ _ c.if-mask-eq0.false c.ranges.mask.fits (rw c.from.ensures at c.if-lowest-ge1.false)
