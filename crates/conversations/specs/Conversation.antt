-- A conversation with `serve`: requests answered one after another. Assumes nothing.
use Rattle.std.specs.Prelude.{ℕ, cond, List, [], ◌∷◌, leb, replicate}
use Rattle.refusal.specs.Table.{malformed as malformedNumber}
use Rattle.register.specs.Text.{Register, read_text}
use Rattle.register.specs.Text.Register.{bad}
use Rattle.model.specs.declared.Call.{Call}
use Rattle.model.specs.Model.{State, fresh, begun, Request, After, step}
use Rattle.requests.specs.Requests.{Demand, asks_call, asks_room, asks_read, malformed, asked_of}
use Rattle.replies.specs.Replies.{ok_text, malformed_text, call_text, reading_text}

-- the account's state, and how many places later questions and writes are lent
pub record Conv : Type 0 where
  pub state : State
  pub room : ℕ

-- a fresh `serve` begins on a fresh service, with a room of 65,536
abbrev pub opening : Conv
opening = record { state = fresh; room = 65536 }

-- a request's answer, and the conversation after it
pub record Turn : Type 0 where
  pub next : Conv
  pub reply : List ℕ

-- a lent list of n places. What they hold beforehand shows in no answer.
abbrev pub lent : ℕ → List ℕ
lent n = replicate n 0

-- a call is lent lists of that many places
abbrev pub call_of : Call → List ℕ → ℕ → Request
call_of c days room = record { call = c; days = days; numbers = lent room; text = lent room }

abbrev pub turn_by : Call → ℕ → After → Turn
turn_by c room x = record { next = record { state = x.state; room = room }; reply = call_text c x.answer }

-- the register of a reading of n bytes; a text above 65,536 bytes is dropped
unfoldable pub register_of : ℕ → List ℕ → Register
register_of n payload = cond (leb n 65536) (read_text payload) (bad malformedNumber 0)

-- the turn of a request; the payload are the bytes after the line of a `read`
unfoldable pub turn_of : Demand → List ℕ → Conv → Turn
turn_of (asks_call c days) payload v = turn_by c v.room (step v.state (call_of c days v.room))
turn_of (asks_room n) payload v = record { next = record { state = v.state; room = n }; reply = ok_text }
turn_of (asks_read n) payload v = record {
  next = record { state = begun (register_of n payload); room = v.room };
  reply = reading_text (register_of n payload);
}
turn_of malformed payload v = record { next = v; reply = malformed_text }

-- a line of at most 65,536 bytes has fewer than 32,768 days: more room for them changes nothing
abbrev pub turn : Conv → List ℕ → List ℕ → Turn
turn v line payload = turn_of (asked_of 32768 line) payload v

-- a request: its line, and the bytes after the line of a `read`
pub record Sent : Type 0 where
  pub line : List ℕ
  pub payload : List ℕ

-- the answers to requests, each on the conversation that the one before it left
unfoldable pub converse : Conv → List Sent → List (List ℕ)
converse v [] = []
converse v (q ∷ qs) = (turn v q.line q.payload).reply ∷ converse (turn v q.line q.payload).next qs

-- the answers where the conversation begins on a text of n bytes: the reading's, and those to the requests after it
abbrev pub converse_on : ℕ → List ℕ → List Sent → List (List ℕ)
converse_on n text qs = (turn_of (asks_read n) text opening).reply ∷ converse (turn_of (asks_read n) text opening).next qs
