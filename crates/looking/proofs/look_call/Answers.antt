-- `looking::look_call` meets its contract: a question is asked, and of another call it is told what it wants. Assumes nothing.
use Rattle.basis.proofs.Prelude.{refl}
use Rattle.conversations.proofs.Turns.{looks_question, wants_none, wants_call}
use Rattle.looking.proofs.look_call.Goals as goal

pub returns-in_default-clause-result_value : goal.returns-in_default-clause-result_value
returns-in_default-clause-result_value c = wants_call _ c.in_default.not-Ask

pub returns-clause-looks_at : goal.returns-clause-looks_at
returns-clause-looks_at c = rw c.in-Ask.is (refl, refl, looks_question c.ask_turn-place.ensures)

pub returns-clause-result_value : goal.returns-clause-result_value
returns-clause-result_value c = search wants_none
