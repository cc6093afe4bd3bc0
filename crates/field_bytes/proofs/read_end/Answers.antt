-- `field_bytes::read_end` meets its contract. Assumes nothing.
use Rattle.fields.proofs.Places.{end_not, end_at}
use Rattle.field_bytes.proofs.read_end.Goals as goal

pub returns-then-not-is_at : goal.returns-then-not-is_at
returns-then-not-is_at c = end_not _ _ _ _ _ c.in_ok-v.was _ c.is_at.ensures c.if-not-is_at.true

pub returns : goal.returns
returns c = end_at _ _ _ _ _ c.in_ok-v.was _ c.is_at.ensures c.if-not-is_at.false
