-- What the program leaves of an answer in the list that it is lent. Assumes nothing.
use Rattle.std.specs.Prelude.{ℕ, ◌-◌, ◌≤◌, ◌≡◌, Bool, ◌&&◌, cond, List, [], ◌++◌, leb, length, take}
use Rattle.model.specs.declared.Call.{Call}
use Rattle.outcomes.specs.declared.Outcome.{Outcome}
use Rattle.outcomes.specs.Outcomes.{answer_of}
use Rattle.replies.specs.Replies.{call_text}

-- the text at the end of the list, from the place r on, and the places before it as they were
pub record Sends (t entry : List ℕ) (r : ℕ) (exit : List ℕ) : Type 0 where
  pub fits : length t ≤ length entry
  pub place : r ≡ length entry - length t
  pub places : exit ≡ take (length entry - length t) entry ++ t

-- an outcome fits lists of so many places: each of its numbers has a decimal, and the lists are as long as it says
unfoldable pub fits_in : Outcome → ℕ → ℕ → Bool
fits_in o numbers text =
    leb o.count 1024 && leb o.count numbers
    && leb o.comparisons 65535 && leb o.ticked 65535
    && leb o.length 65535 && leb o.length text

-- the bytes that are put of a call's outcome: none where it does not fit its lists
unfoldable pub reply_text : Call → Outcome → List ℕ → List ℕ → List ℕ
reply_text c o numbers text = cond (fits_in o (length numbers) (length text)) (call_text c (answer_of o numbers text)) []
