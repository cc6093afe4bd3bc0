-- What `serve` makes of the bytes that it reads: a request, and its answer. Assumes nothing.
use Rattle.std.specs.Prelude.{ℕ, ◌≤◌, ◌≡◌, Bool, true, false, ◌⊎◌, Option, Some, None, List, ◌++◌, take, drop}
use Rattle.service.specs.declared.Service.{Service}
use Rattle.service.specs.Service.{Blocks}
use Rattle.conversations.specs.declared.Answered.{Answered}
use Rattle.conversations.specs.declared.Looked.{Looked}
use Rattle.conversations.specs.declared.Looked.TheVariants.{Done, Wants}
use Rattle.conversations.specs.declared.Wanted.{Wanted}
use Rattle.conversations.specs.Answering.{Served, Looks}
use Rattle.streams.specs.Stream.{begun}
use Rattle.streams.specs.Advancing.{done, next, sent_of}
use Rattle.requests.specs.declared.Request.TheVariants.{Malformed}
use Rattle.serving.specs.declared.Incoming.{Incoming}
use Rattle.serving.specs.declared.Seen.{Seen}

-- ---- Answers gathered

-- so many bytes are gathered, and whether there is more to serve
pub record Gathered : Type 0 where
  pub held : ℕ
  pub «open» : Bool

-- what the program answers: so many bytes, or none where no more can be served
abbrev pub gathered_in : Option ℕ → Gathered
gathered_in (Some n) = record { held = n; «open» = true }
gathered_in None = record { held = 0; «open» = false }

-- an answer's bytes stand after those that are gathered, or alone, where these were written first
abbrev pub Gathers : List ℕ → List ℕ → ℕ → Gathered → List ℕ → Type 0
Gathers answer gathered held r gathered' =
    r.open ≡ true → (take r.held gathered' ≡ take held gathered ++ answer) ⊎ (take r.held gathered' ≡ answer)

-- ---- Requests

-- so many bytes of the line and the text of a request that is whole, or that the input ended before it; the bytes that have arrived and are
-- not taken yet, and the bytes of answers that are still gathered
pub record Taken : Type 0 where
  pub line : ℕ
  pub payload : ℕ
  pub whole : Bool
  pub start : ℕ
  pub end : ℕ
  pub held : ℕ

abbrev pub taken_in : Option Incoming → Taken
taken_in (Some r) = record { line = r.line; payload = r.payload; whole = true; start = r.start; end = r.end; held = r.held }
taken_in None = record { line = 0; payload = 0; whole = false; start = 0; end = 0; held = 0 }

-- the same with what a look at the line gave; where no request was taken it says nothing
pub record Sight : Type 0 where
  pub line : ℕ
  pub payload : ℕ
  pub whole : Bool
  pub start : ℕ
  pub end : ℕ
  pub held : ℕ
  pub looked : Looked

abbrev pub sight_in : Option Seen → Sight
sight_in (Some r) = record {
  line = r.request.line;
  payload = r.request.payload;
  whole = true;
  start = r.request.start;
  end = r.request.end;
  held = r.request.held;
  looked = r.looked;
}
sight_in None = record { line = 0; payload = 0; whole = false; start = 0; end = 0; held = 0; looked = Done Malformed 0 0 }

-- the bytes from a place up to another
abbrev pub between : List ℕ → ℕ → ℕ → List ℕ
between l start end = drop start (take end l)

-- A request that is whole is the next one of the bytes that had arrived and were not taken, with others that were read after them; the
-- bytes after it are those that have arrived and are not taken now. Of the bytes that a read brings nothing is known.
pub record Takes (arrived : List ℕ) (start end : ℕ) (r : Taken) (arrived' line' payload' : List ℕ) : Type 0 where
  pub line_fits : r.line ≤ 65537
  pub text_within : r.payload ≤ 65536
  pub end_in : r.end ≤ 65536
  pub bytes : List ℕ
  pub came : r.whole ≡ true → done (sent_of r.line r.payload line' payload') (between arrived' r.start r.end) ≡ next begun (between arrived start end ++ bytes)

-- what is said of a request that was taken
abbrev pub request_in : Sight → Taken
request_in r = record { line = r.line; payload = r.payload; whole = r.whole; start = r.start; end = r.end; held = r.held }

-- Seeing takes a request, and looks at its line where it is whole
pub record Sees (bs : Blocks) (room : ℕ) (arrived : List ℕ) (start end : ℕ) (days numbers text out : List ℕ) (r : Sight) (arrived' line' payload' days' numbers' out' : List ℕ) : Type 0 where
  pub takes : Takes arrived start end (request_in r) arrived' line' payload'
  pub looks : r.whole ≡ true → Looks bs room (take r.line line') days numbers text out r.looked days' numbers' out'

-- What is wanted is carried out: whatever line was looked at, with whatever lists, its request is served
abbrev pub Finishes : Service → Blocks → ℕ → Wanted → List ℕ → List ℕ → List ℕ → List ℕ → List ℕ → Answered → Blocks → List ℕ → List ℕ → List ℕ → Type 0
Finishes sv bs room w payload days numbers text out r bs' numbers' text' out' =
    (line before places put : List ℕ) → Looks bs room line before places text put (Wants w) days numbers out
    → Served sv bs room line payload before places text put r bs' days numbers' text' out'
