-- `looking::look_at` meets its contract: a room and a line of no form are answered here. Assumes nothing.
use Rattle.basis.proofs.Prelude.{refl}
use Rattle.conversations.{specs.Conversation.turn_of, proofs.Turns.{turn_malformed, room_in_lem}}
use Rattle.looking.proofs.look_at.Goals as goal

pub returns-in-Room-clause-looks_at : goal.returns-in-Room-clause-looks_at
unfolding turn_of
returns-in-Room-clause-looks_at c = rw c.in-Room.is (refl, refl, λ sv g payload. search room_in_lem)

pub returns-in-Malformed-clause-looks_at : goal.returns-in-Malformed-clause-looks_at
unfolding turn_of
returns-in-Malformed-clause-looks_at c = rw c.in-Malformed.is (refl, refl, λ sv g payload. turn_malformed g (search) (search))
