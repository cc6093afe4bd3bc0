-- `request_fields::if_ended` meets its contract. Assumes nothing.
use Rattle.request_fields.proofs.Layouts.{ended_more}
use Rattle.request_fields.proofs.if_ended.Goals as goal

pub returns-then-end-line : goal.returns-then-end-line
returns-then-end-line c = ended_more _ _ _ c.if-end-line.true
