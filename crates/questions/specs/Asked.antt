-- The postcondition of a question, over the published index alone. Assumes nothing.
use Rattle.std.specs.Prelude.{ℕ, ◌≡◌, List}
use Rattle.model.specs.declared.Call.{Call}
use Rattle.model.specs.declared.Question.{Question}
use Rattle.model.specs.Model.{State, step}
use Rattle.outcomes.specs.declared.Outcome.{Outcome}
use Rattle.outcomes.specs.Outcomes.{asking, answer_of}
use Rattle.published_index.specs.Index.{Shows}

-- THE POSTCONDITION of a question: w was asked of the index ix, with days and numbers in the lent lists, and o was told, with numbers' in
-- the list for spell numbers. Of whatever state whose published list the index shows, and whatever list is lent for a text, which stays as it
-- was, the answer is the account's.
pub record Asked (ix : List ℕ) (w : Question) (days numbers : List ℕ) (o : Outcome) (numbers' : List ℕ) : Type 0 where
  pub answer : (m : State) (text : List ℕ) → Shows ix m.published → answer_of o numbers' text ≡ (step m (asking (Call.Ask w) days numbers text)).answer
