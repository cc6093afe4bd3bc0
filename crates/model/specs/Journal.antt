-- What happens to one service over the years, calls and readings, and which of it a journal keeps. Assumes nothing.
use Rattle.std.specs.Prelude.{ℕ, Bool, true, false, ◌&&◌, not, cond, List, [], ◌∷◌, eqb}
use Rattle.refusal.specs.Table.{accepted}
use Rattle.register.specs.Text.{Register}
use Rattle.model.specs.declared.Call.{Call}
use Rattle.model.specs.declared.Call.TheVariants.{Enter, Amend, Strike, TakeBack, Publish, Write, Ask}
use Rattle.model.specs.Model.{State, begun, refusal_in, line_in, Request, Answer, step}

-- the calls that only read: writing and the questions
abbrev pub reads : Call → Bool
reads (Enter s) = false
reads (Amend s) = false
reads (Strike k) = false
reads TakeBack = false
reads (Publish rule) = false
reads Write = true
reads (Ask w) = true

-- ---- Events

-- a call, or a reading of what a text reads as: from there on the service is the one just read
pub data Event : Type 0 where
  call : Request → Event
  reading : Register → Event

-- a call's whole answer; a reading's number and line
pub data Told : Type 0 where
  answered : Answer → Told
  read : ℕ → ℕ → Told

abbrev pub next : State → Event → State
next m (call q) = (step m q).state
next m (reading g) = begun g

abbrev pub told : State → Event → Told
told m (call q) = answered (step m q).answer
told m (reading g) = read (refusal_in g) (line_in g)

-- the state that events leave
unfoldable pub left : State → List Event → State
left m [] = m
left m (e ∷ es) = left (next m e) es

-- what each is told
unfoldable pub all_told : State → List Event → List Told
all_told m [] = []
all_told m (e ∷ es) = told m e ∷ all_told (next m e) es

-- ---- The journal

-- accepted changes, and every reading: a refused one makes a fresh service
abbrev pub kept : State → Event → Bool
kept m (call q) = not (reads q.call) && eqb (step m q).answer.refusal accepted
kept m (reading g) = true

-- the events that are kept, in their order
unfoldable pub journal : State → List Event → List Event
journal m [] = []
journal m (e ∷ es) = cond (kept m e) (e ∷ journal (next m e) es) (journal (next m e) es)

-- what they were told
unfoldable pub journal_told : State → List Event → List Told
journal_told m [] = []
journal_told m (e ∷ es) = cond (kept m e) (told m e ∷ journal_told (next m e) es) (journal_told (next m e) es)
