-- What the program's answer says of a request's line, and what is left in the list lent for days. Assumes nothing.
use Rattle.std.specs.Prelude.{ℕ, ◌≡◌, List, [], ◌∷◌, length, take}
use Rattle.buffer.specs.Buffer.{over}
use Rattle.requests.specs.declared.Layout.{Layout}
use Rattle.requests.specs.declared.LengthWord.{LengthWord}
use Rattle.requests.specs.declared.Request.{Request}
use Rattle.requests.specs.declared.Request.TheVariants.{Call as RequestCall, Room as RequestRoom, Read as RequestRead, Malformed as RequestMalformed}
use Rattle.requests.specs.Requests.{Demand, asks_call, asks_room, asks_read, malformed, length_asks, asked_by, asked_of, following, days_of}

-- the program's form of what is asked: the days of a call stand in the first places of the lent list, and their count beside it
abbrev pub request_of : Demand → Request
request_of (asks_call c ds) = RequestCall c (length ds)
request_of (asks_room n) = RequestRoom n
request_of (asks_read n) = RequestRead n
request_of malformed = RequestMalformed

-- the answer, and every place of the list lent for days
pub record Parses (line days : List ℕ) (r : Request) (days' : List ℕ) : Type 0 where
  pub request : r ≡ request_of (asked_of (length days) line)
  pub places : days' ≡ over (days_of (length days) line) days
  pub sized : length days' ≡ length days

-- r bytes follow the line, whatever room there is for days
abbrev pub Announces : List ℕ → ℕ → Type 0
Announces line r = (room : ℕ) → r ≡ following (asked_of room line)

-- ---- What the program's form asks

-- what a request asks, its days in the first places of a list
abbrev pub asked_from : Request → List ℕ → Demand
asked_from (RequestCall c k) days = asks_call c (take k days)
asked_from (RequestRoom n) days = asks_room n
asked_from (RequestRead n) days = asks_read n
asked_from RequestMalformed days = malformed

-- so many days
abbrev pub days_in : Request → ℕ
days_in (RequestCall c k) = k
days_in (RequestRoom n) = 0
days_in (RequestRead n) = 0
days_in RequestMalformed = 0

-- the room that is asked for
abbrev pub room_in : Request → ℕ
room_in (RequestCall c k) = 0
room_in (RequestRoom n) = n
room_in (RequestRead n) = 0
room_in RequestMalformed = 0

-- ---- The parts of a line

-- the fields s of a layout ask r, whatever room there is for days
abbrev pub Asks : Layout → List ℕ → Request → Type 0
Asks l s r = (room : ℕ) → r ≡ request_of (asked_by l room s)

-- a request where nothing comes after
abbrev pub if_ended : Request → List ℕ → Request
if_ended q [] = q
if_ended q (b ∷ rest) = RequestMalformed

-- what a decimal asks
abbrev pub length_request : LengthWord → ℕ → Request
length_request w n = request_of (length_asks w n)

-- the length of the text that a request announces
abbrev pub following_in : Request → ℕ
following_in (RequestCall c k) = 0
following_in (RequestRoom n) = 0
following_in (RequestRead n) = n
following_in RequestMalformed = 0
