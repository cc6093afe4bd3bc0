-- The postcondition of a request. Assumes nothing.
use Rattle.std.specs.Prelude.{ℕ, ◌≤◌, min, ◌≡◌, Bool, true, false, cond, List, [], ◌∷◌, ◌++◌, take, drop}
use Rattle.model.specs.declared.Call.{Call}
use Rattle.model.specs.declared.Call.TheVariants.{Enter, Amend, Strike, TakeBack, Publish, Write, Ask}
use Rattle.model.specs.Journal.{reads}
use Rattle.model.specs.Model.{State, Request, step}
use Rattle.service.specs.declared.Service.{Service}
use Rattle.service.specs.Service.{Blocks, Represents, Given}
use Rattle.replies.specs.Sending.{Sends}
use Rattle.conversations.specs.declared.Answered.{Answered}
use Rattle.conversations.specs.declared.Looked.{Looked}
use Rattle.conversations.specs.declared.Looked.TheVariants.{Done, Wants}
use Rattle.conversations.specs.declared.Wanted.{Wanted}
use Rattle.conversations.specs.declared.Wanted.TheVariants.{Call as WantedCall, Read as WantedRead}
use Rattle.conversations.specs.Conversation.{Conv, Turn, turn_of}
use Rattle.requests.specs.declared.Request.{Request as RequestIn}
use Rattle.requests.specs.declared.Request.TheVariants.{Call as RequestCall, Room as RequestRoom, Read as RequestRead, Malformed as RequestMalformed}
use Rattle.requests.specs.Parsing.{request_of}
use Rattle.requests.specs.Requests.{Demand, asks_call, asks_room, asks_read, malformed, asked_of, days_of}
use Rattle.buffer.specs.Buffer.{over}

-- the answer of a turn, with the service and the blocks that stand for the conversation after it
pub record Taken (t : Turn) (out : List ℕ) (r : Answered) (bs' : Blocks) (out' : List ℕ) : Type 0 where
  pub sends : Sends t.reply out r.place out'
  pub after : Represents r.service bs' t.next.state
  pub room : r.room ≡ t.next.room

-- the service sv and the blocks bs take the turn t, for whatever state they stand for
pub record Turned (sv : Service) (bs : Blocks) (t : State → Turn) (out : List ℕ) (r : Answered) (bs' : Blocks) (out' : List ℕ) : Type 0 where
  pub given : Given r.service bs'
  pub room : r.room ≤ 65536
  pub taken : (m : State) → Represents sv bs m → Taken (t m) out r bs' out'

abbrev pub conv : State → ℕ → Conv
conv m room = record { state = m; room = room }

-- a call that is lent the first places of these lists
abbrev pub lent_of : Call → List ℕ → ℕ → List ℕ → List ℕ → Request
lent_of c ds room numbers text = record { call = c; days = ds; numbers = take room numbers; text = take room text }

-- the turn of a reading, whatever service and blocks were there before
pub record Restarted (room n : ℕ) (payload out : List ℕ) (r : Answered) (bs' : Blocks) (out' : List ℕ) : Type 0 where
  pub given : Given r.service bs'
  pub taken : (m : State) → Taken (turn_of (asks_read n) payload (conv m room)) out r bs' out'

-- every place of the lists lent for numbers and text: a call is lent their first places
abbrev pub numbers_by : Demand → State → ℕ → List ℕ → List ℕ → List ℕ
numbers_by (asks_call c ds) m room numbers text = (step m (lent_of c ds room numbers text)).answer.numbers ++ drop room numbers
numbers_by (asks_room n) m room numbers text = numbers
numbers_by (asks_read n) m room numbers text = numbers
numbers_by malformed m room numbers text = numbers

abbrev pub text_by : Demand → State → ℕ → List ℕ → List ℕ → List ℕ
text_by (asks_call c ds) m room numbers text = (step m (lent_of c ds room numbers text)).answer.text ++ drop room text
text_by (asks_room n) m room numbers text = text
text_by (asks_read n) m room numbers text = text
text_by malformed m room numbers text = text

-- THE POSTCONDITION of a request that asks q, begun with these lists
pub record Answers (sv : Service) (bs : Blocks) (room : ℕ) (q : Demand) (payload numbers text out : List ℕ) (r : Answered) (bs' : Blocks) (numbers' text' out' : List ℕ) : Type 0 where
  pub turned : Turned sv bs (λ m. turn_of q payload (conv m room)) out r bs' out'
  pub lists : (m : State) → Represents sv bs m → (numbers' ≡ numbers_by q m room numbers text) × (text' ≡ text_by q m room numbers text)

-- the same whatever bytes follow its line: a call's answer does not depend on them
abbrev pub Carries : Service → Blocks → ℕ → Demand → List ℕ → List ℕ → List ℕ → Answered → Blocks → List ℕ → List ℕ → List ℕ → Type 0
Carries sv bs room q numbers text out r bs' numbers' text' out' = (payload : List ℕ) → Answers sv bs room q payload numbers text out r bs' numbers' text' out'

-- a room above 65,536 counts as 65,536
abbrev pub room_of : ℕ → ℕ
room_of n = min n 65536

-- the same of a request's bytes, with every place of the list lent for days
pub record Served (sv : Service) (bs : Blocks) (room : ℕ) (line payload days numbers text out : List ℕ) (r : Answered) (bs' : Blocks) (days' numbers' text' out' : List ℕ) : Type 0 where
  pub answers : Answers sv bs (room_of room) (asked_of 32768 line) payload numbers text out r bs' numbers' text' out'
  pub kept : days' ≡ over (days_of 32768 line) days

-- ---- A look at a request, which wants no service or is told

-- what is asked of a service, the days of a call in the first places of a list
abbrev pub asked_in : Wanted → List ℕ → Demand
asked_in (WantedCall c k) days = asks_call c (take k days)
asked_in (WantedRead n) days = asks_read n

-- a request that only reads
abbrev pub only_reads : Demand → Bool
only_reads (asks_call c ds) = reads c
only_reads (asks_room n) = true
only_reads (asks_read n) = false
only_reads malformed = true

-- a call that is a question
unfoldable pub is_question : Call → Bool
is_question (Enter s) = false
is_question (Amend s) = false
is_question (Strike k) = false
is_question TakeBack = false
is_question (Publish rule) = false
is_question Write = false
is_question (Ask w) = true

-- what a request wants of a service: nothing, where it is a question, a room or a line of no form
abbrev pub wanted_by : RequestIn → List Wanted
wanted_by (RequestCall c k) = cond (is_question c) [] (WantedCall c k ∷ [])
wanted_by (RequestRoom n) = []
wanted_by (RequestRead n) = WantedRead n ∷ []
wanted_by RequestMalformed = []

-- what a look tells as wanted
abbrev pub wanted_in : Looked → List Wanted
wanted_in (Done v later place) = []
wanted_in (Wants x) = x ∷ []

-- an answer beside a service that is as it was
abbrev pub beside : Service → ℕ → ℕ → Answered
beside sv room place = record { service = sv; room = room; place = place }

-- A request w that asks q, its days in a list. One that is answered only reads, whatever service stands beside the blocks, and that is
-- as it was. Of another it is told what it wants, and nothing is written. Which of the two comes is `wanted_by`.
abbrev pub LooksAt : Blocks → ℕ → RequestIn → Demand → List ℕ → List ℕ → List ℕ → List ℕ → Looked → List ℕ → List ℕ → Type 0
LooksAt bs room w q days numbers text out (Done v later place) numbers' out' =
    (v ≡ w) × (only_reads q ≡ true) × ((sv : Service) → Given sv bs → Carries sv bs room q numbers text out (beside sv later place) bs numbers' text out')
LooksAt bs room w q days numbers text out (Wants x) numbers' out' = (q ≡ asked_in x days) × (numbers' ≡ numbers) × (out' ≡ out)

-- the same of a request's line, with every place of the list lent for days
pub record Looks (bs : Blocks) (room : ℕ) (line days numbers text out : List ℕ) (r : Looked) (days' numbers' out' : List ℕ) : Type 0 where
  pub wanted : wanted_in r ≡ wanted_by (request_of (asked_of 32768 line))
  pub at : LooksAt bs (room_of room) (request_of (asked_of 32768 line)) (asked_of 32768 line) days' numbers text out r numbers' out'
  pub kept : days' ≡ over (days_of 32768 line) days
