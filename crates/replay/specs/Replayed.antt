-- What a list of calls leaves in the lent lists. Assumes nothing.
use Rattle.std.specs.Prelude.{ℕ, ◌≡◌, Bool, cond, List, length}
use Rattle.refusal.specs.Table.{accepted}
use Rattle.register.specs.Text.{read_text}
use Rattle.buffer.specs.Buffer.{over}
use Rattle.model.specs.Model.{State, fresh, begun, refusal_in, line_in, Answer, run}
use Rattle.service.specs.declared.Service.{Service}
use Rattle.service.specs.Service.{Blocks, Represents, number_at, line_at}
use Rattle.coding.specs.Coded.{decode, results_of, numbers_of, texts_of}
use Rattle.replay.specs.declared.Ran.{Ran}

-- so many calls were made, and results, numbers and text hold these answers
pub record Holds (answers : List Answer) (results numbers text : List ℕ) (made : ℕ) (results' numbers' text' : List ℕ) : Type 0 where
  pub count : made ≡ length answers
  pub told : results' ≡ over (results_of answers) results
  pub listed : numbers' ≡ over (numbers_of answers) numbers
  pub written : text' ≡ over (texts_of answers) text

-- whatever state the service sv and the blocks bs stand for, these are the answers of the account's run of the coded calls from it
abbrev pub Answered : Service → Blocks → List ℕ → List ℕ → List ℕ → List ℕ → List ℕ → ℕ → List ℕ → List ℕ → List ℕ → Type 0
Answered sv bs codes days results numbers text made results' numbers' text' =
    (m : State) → Represents sv bs m → Holds (run m (decode codes days results numbers text)) results numbers text made results' numbers' text'

-- ---- The beginning: a fresh service, or a register's bytes

abbrev pub beginning : Bool → List ℕ → State
beginning new register = cond new fresh (begun (read_text register))

-- what a replayed list gives beside its lists, by its numbers: the refusal's and the line of the reading that it began with, or 0 and 0, and
-- how many calls were made
pub record Played : Type 0 where
  pub refusal : ℕ
  pub line : ℕ
  pub made : ℕ

-- as a call returns it
abbrev pub played_in : Ran → Played
played_in r = record { refusal = number_at r.outcome; line = line_at r.outcome; made = r.made }

-- THE CLAIM about a whole list of calls: begun fresh or on the register's bytes, the answers of the calls that the words code
-- are those of the account's own run of them
pub record Replayed (new : Bool) (register codes days results numbers text : List ℕ) (r : Played) (results' numbers' text' : List ℕ) : Type 0 where
  pub refusal : r.refusal ≡ cond new accepted (refusal_in (read_text register))
  pub line : r.line ≡ cond new 0 (line_in (read_text register))
  pub calls : Holds (run (beginning new register) (decode codes days results numbers text)) results numbers text r.made results' numbers' text'
