-- Requests of many conversations carried out on one host's words, one after another, by whatever code. Assumes nothing.
use Rattle.std.specs.Prelude.{ℕ, ◌≡◌, true, false, List, [], ◌∷◌, ◌++◌, leb, drop}
use Rattle.model.specs.Model.{State}
use Rattle.model.specs.Journal.{Event, left}
use Rattle.requests.specs.Requests.{asked_of}
use Rattle.service.specs.Packed.{unpacked}
use Rattle.service.specs.Service.{Blocks, Given}
use Rattle.conversations.specs.Conversation.{turn_of}
use Rattle.conversations.specs.Answering.{conv, room_of}
use Rattle.sharing.specs.declared.Carried.{Carried}
use Rattle.sharing.specs.Words.{word_of, power_of}
use Rattle.sharing.specs.Carrying.{events_of, Requested}

-- a request, and the room of the conversation that it belongs to
pub record Posted : Type 0 where
  pub room : ℕ
  pub line : List ℕ
  pub payload : List ℕ

-- what it is to the account, and its answer in the state m
abbrev pub events_in : Posted → List Event
events_in p = events_of (asked_of 32768 p.line) p.payload (room_of p.room)

abbrev pub reply_to : State → Posted → List ℕ
reply_to m p = (turn_of (asked_of 32768 p.line) p.payload (conv m (room_of p.room))).reply

-- the same of requests one after another
unfoldable pub all_events : List Posted → List Event
all_events [] = []
all_events (p ∷ ps) = events_in p ++ all_events ps

unfoldable pub replies : State → List Posted → List (List ℕ)
replies m [] = []
replies m (p ∷ ps) = reply_to m p ∷ replies (left m (events_in p)) ps

-- Of each request no more is known than the contract of `phayaklit_request`: its `requires` implies its `ensures`. One that is carried out
-- is answered by the bytes of the lent list from the place on; one whose word does more than is allowed is none of those that are answered.
-- The next one is made on the words and the blocks as this one left them, and nobody else writes them meanwhile.
pub data Shared : List ℕ → Blocks → List Posted → List (List ℕ) → List ℕ → Blocks → Type 0 where
  none : {words : List ℕ} {bs : Blocks} → Shared words bs [] [] words bs
  carried : {words words'' : List ℕ} {bs bs'' : Blocks} {p : Posted} {ps : List Posted} {rs : List (List ℕ)}
      (allowed : ℕ) (r : Carried) (days numbers text out words' : List ℕ) (bs' : Blocks) (days' numbers' text' out' : List ℕ)
      → leb (power_of (word_of (asked_of 32768 p.line))) allowed ≡ true
      → (Given (unpacked words) bs → Requested words bs p.room allowed p.line p.payload days numbers text out r words' bs' days' numbers' text' out')
      → Shared words' bs' ps rs words'' bs''
      → Shared words bs (p ∷ ps) (drop r.place out' ∷ rs) words'' bs''
  held : {words words'' : List ℕ} {bs bs'' : Blocks} {ps : List Posted} {rs : List (List ℕ)} (p : Posted)
      (allowed : ℕ) (r : Carried) (days numbers text out words' : List ℕ) (bs' : Blocks) (days' numbers' text' out' : List ℕ)
      → leb (power_of (word_of (asked_of 32768 p.line))) allowed ≡ false
      → (Given (unpacked words) bs → Requested words bs p.room allowed p.line p.payload days numbers text out r words' bs' days' numbers' text' out')
      → Shared words' bs' ps rs words'' bs''
      → Shared words bs ps rs words'' bs''
