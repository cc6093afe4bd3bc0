-- Calls made through the exported functions on one host's blocks, one after another, by whatever code. Assumes nothing.
use Rattle.std.specs.Prelude.{ℕ, List, [], ◌∷◌}
use Rattle.model.specs.declared.Call.{Call}
use Rattle.model.specs.declared.Call.TheVariants.{Publish, Write, Ask}
use Rattle.model.specs.declared.Question.{Question}
use Rattle.model.specs.Model.{State, Request, Answer}
use Rattle.service.specs.Packed.{unpacked}
use Rattle.outcomes.specs.Outcomes.{asking, answer_of}
use Rattle.published_index.specs.Index.{Published}
use Rattle.questions.specs.Asked.{Asked}
use Rattle.service.specs.Service.{Blocks, Represents, Changed, Publishes, Wrote}
use Rattle.hosting.specs.declared.Reply.{Reply}
use Rattle.hosting.specs.Host.{Held, Laid, outcome_of, stepped_of}

-- The beginning: the words and the blocks stand for the state m, and every word is laid out. `phayaklit_fresh` and `phayaklit_read`
-- leave them so, with the account's beginning for m.
abbrev pub Opens : List ℕ → Blocks → State → Type 0
Opens words bs m = Represents (unpacked words) bs m × Laid words

-- One call: on these words and these blocks it was asked q, replied r, and left words, blocks, numbers and text so. Of what it gives
-- no more is known than its contract: its `requires` implies its `ensures`. A list that it is not lent is as it was.
pub data Called : List ℕ → Blocks → Request → Reply → List ℕ → Blocks → List ℕ → List ℕ → Type 0 where
  edited : {words words' : List ℕ} {bs : Blocks} {days numbers text : List ℕ} (c : Call) (r : Reply)
      → (Held words → Changed (unpacked words) c (stepped_of words' r) × (Laid words → Laid words'))
      → Called words bs (asking c days numbers text) r words' bs numbers text
  published : {words : List ℕ} {bs bs' : Blocks} {days numbers text : List ℕ} (rule : ℕ) (r : Reply)
      → (Held words → Publishes (unpacked words) rule bs (stepped_of words r) bs')
      → Called words bs (asking (Publish rule) days numbers text) r words bs' numbers text
  wrote : {words : List ℕ} {bs : Blocks} {days numbers text text' : List ℕ} (r : Reply)
      → (Held words → Wrote (unpacked words) text (outcome_of r) text')
      → Called words bs (asking Write days numbers text) r words bs numbers text'
  asked : {words : List ℕ} {bs : Blocks} {days numbers numbers' text : List ℕ} (w : Question) (r : Reply)
      → (Published bs.index → Asked bs.index w days numbers (outcome_of r) numbers')
      → Called words bs (asking (Ask w) days numbers text) r words bs numbers' text

-- A list of calls: the next one is made on the words and the blocks as this one left them, and nobody else writes them meanwhile
pub data Hosted : List ℕ → Blocks → List Request → List Answer → List ℕ → Blocks → Type 0 where
  none : {words : List ℕ} {bs : Blocks} → Hosted words bs [] [] words bs
  then : {words words' words'' : List ℕ} {bs bs' bs'' : Blocks} {numbers text : List ℕ} {q : Request} {r : Reply} {qs : List Request} {answers : List Answer}
      → Called words bs q r words' bs' numbers text
      → Hosted words' bs' qs answers words'' bs''
      → Hosted words bs (q ∷ qs) (answer_of (outcome_of r) numbers text ∷ answers) words'' bs''
