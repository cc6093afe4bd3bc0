-- Requests answered on one service, one after another, by whatever code. Assumes nothing.
use Rattle.std.specs.Prelude.{ℕ, List, [], ◌∷◌, drop}
use Rattle.service.specs.declared.Service.{Service}
use Rattle.service.specs.Service.{Blocks, Given}
use Rattle.conversations.specs.declared.Answered.{Answered}
use Rattle.conversations.specs.Conversation.{Sent}
use Rattle.conversations.specs.Answering.{Served}

-- The service sv with the blocks bs and a room is sent qs, which are answered by these bytes. Of each answer no more is known than
-- what the contracts of `look` and `carry` give: on a service and blocks that the calls gave it is `Served`, by a look alone, or by what is
-- carried out after it. The bytes are those of the lent list from the returned place on.
-- The next request is answered on the service that this one returned, with the blocks and the room that it left.
pub data Spoken : Service → Blocks → ℕ → List Sent → List (List ℕ) → Type 0 where
  none : {sv : Service} {bs : Blocks} {room : ℕ} → Spoken sv bs room [] []
  then : {sv : Service} {bs : Blocks} {room : ℕ} {q : Sent} {qs : List Sent} {replies : List (List ℕ)}
      (r : Answered) (days numbers text out : List ℕ) (bs' : Blocks) (days' numbers' text' out' : List ℕ)
      → (Given sv bs → Served sv bs room q.line q.payload days numbers text out r bs' days' numbers' text' out')
      → Spoken r.service bs' r.room qs replies
      → Spoken sv bs room (q ∷ qs) (drop r.place out' ∷ replies)
