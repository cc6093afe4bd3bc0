-- The postcondition of a request on a host's words. Assumes nothing.
use Rattle.std.specs.Prelude.{ℕ, ◌≡◌, cond, List, [], ◌∷◌, leb, length}
use Rattle.buffer.specs.Buffer.{over}
use Rattle.model.specs.Model.{State}
use Rattle.model.specs.Journal.{Event, call, reading, journal}
use Rattle.requests.specs.Requests.{Demand, asks_call, asks_room, asks_read, malformed, asked_of, days_of}
use Rattle.service.specs.Packed.{unpacked}
use Rattle.service.specs.Service.{Blocks, Represents}
use Rattle.conversations.specs.declared.Answered.{Answered}
use Rattle.conversations.specs.Conversation.{call_of, register_of}
use Rattle.conversations.specs.Answering.{room_of, Served}
use Rattle.hosting.specs.Host.{Laid}
use Rattle.sharing.specs.declared.Carried.{Carried}
use Rattle.sharing.specs.Words.{word_of, power_of}

-- what a request is to the account: a call that is lent lists of so many places, a reading, or nothing
abbrev pub events_of : Demand → List ℕ → ℕ → List Event
events_of (asks_call c ds) payload room = call (call_of c ds room) ∷ []
events_of (asks_room n) payload room = []
events_of (asks_read n) payload room = reading (register_of n payload) ∷ []
events_of malformed payload room = []

-- what a host is told, with the service of its words: a request's answer
abbrev pub answered_of : List ℕ → Carried → Answered
answered_of words r = record { service = unpacked words; room = r.room; place = r.place }

-- A request that is carried out is answered as `looking` and `wire` do on the service of the words. `changed` is 1 where a journal keeps it,
-- and else 0.
pub record Carries (words : List ℕ) (bs : Blocks) (room : ℕ) (line payload days numbers text out : List ℕ) (r : Carried) (words' : List ℕ) (bs' : Blocks) (days' numbers' text' out' : List ℕ) : Type 0 where
  pub served : Served (unpacked words) bs room line payload days numbers text out (answered_of words' r) bs' days' numbers' text' out'
  pub word : r.word ≡ word_of (asked_of 32768 line)
  pub changed : (m : State) → Represents (unpacked words) bs m → r.changed ≡ length (journal m (events_of (asked_of 32768 line) payload (room_of room)))
  pub laid : Laid words → Laid words'
  pub kept : power_of (word_of (asked_of 32768 line)) ≡ 0 → words' ≡ words

-- what a host is told of a request that is held back
abbrev pub held_at : ℕ → ℕ → Carried
held_at word room = record { word = word; changed = 0; room = room; place = 131072 }

-- One that is not: all is as it was, but that its days are read
pub record HeldBack (words : List ℕ) (bs : Blocks) (room : ℕ) (line days numbers text out : List ℕ) (r : Carried) (words' : List ℕ) (bs' : Blocks) (days' numbers' text' out' : List ℕ) : Type 0 where
  pub told : r ≡ held_at (word_of (asked_of 32768 line)) room
  pub words_kept : words' ≡ words
  pub blocks_kept : bs' ≡ bs
  pub days_kept : days' ≡ over (days_of 32768 line) days
  pub numbers_kept : numbers' ≡ numbers
  pub text_kept : text' ≡ text
  pub out_kept : out' ≡ out

-- by whether its word does no more than is allowed
abbrev pub Requested : List ℕ → Blocks → ℕ → ℕ → List ℕ → List ℕ → List ℕ → List ℕ → List ℕ → List ℕ → Carried → List ℕ → Blocks → List ℕ → List ℕ → List ℕ → List ℕ → Type 0
Requested words bs room allowed line payload days numbers text out r words' bs' days' numbers' text' out' =
    cond (leb (power_of (word_of (asked_of 32768 line))) allowed)
    (Carries words bs room line payload days numbers text out r words' bs' days' numbers' text' out')
    (HeldBack words bs room line days numbers text out r words' bs' days' numbers' text' out')
