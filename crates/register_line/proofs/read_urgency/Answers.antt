-- `register_line::read_urgency` meets its contract. Assumes nothing.
use Rattle.fields.proofs.Places.{read_on, unread}
use Rattle.register.specs.Text.{read_urgency}
use Rattle.register_line.proofs.read_urgency.Goals as goal

pub returns-in_err-letter : goal.returns-in_err-letter
unfolding read_urgency
returns-in_err-letter c = unread _ _ c.read_letter.ensures _ c.in_err-letter.was c.from_residual.ensures

pub returns : goal.returns
unfolding read_urgency
returns c = read_on _ _ c.read_letter.ensures _ _ _ c.in_ok-letter.was c.read_value.ensures
