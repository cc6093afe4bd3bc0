-- What a call tells beside its lent lists: every outcome is one of these, and with the lists the account's answer. Assumes nothing.
use Rattle.std.specs.Prelude.{ℕ, cond, List, eqb}
use Rattle.refusal.specs.Table.{accepted}
use Rattle.register.specs.Answers.{Written}
use Rattle.stabbing.specs.Answer.{Told}
use Rattle.model.specs.declared.Call.{Call}
use Rattle.model.specs.Model.{Request, Answer}
use Rattle.outcomes.specs.declared.Outcome.{Outcome}

-- a number and no more: the refusal's, or 0
abbrev pub told_of : ℕ → Outcome
told_of n = record { refusal = n; count = 0; comparisons = 0; length = 0; ticked = 0 }

-- what a question found in the index
abbrev pub found_of : Told → Outcome
found_of l = record { refusal = l.refusal; count = l.count; comparisons = l.comparisons; length = 0; ticked = 0 }

-- what was written of a text
abbrev pub wrote_of : Written → Outcome
wrote_of w = record { refusal = w.refusal; count = 0; comparisons = 0; length = w.length; ticked = 0 }

-- what several days gave, of which n are ticked: told where it is accepted
abbrev pub ticking_of : Outcome → ℕ → Outcome
ticking_of o n = cond (eqb o.refusal accepted)
    (record { refusal = o.refusal; count = o.count; comparisons = o.comparisons; length = o.length; ticked = n }) o

-- a call with its lent lists
abbrev pub asking : Call → List ℕ → List ℕ → List ℕ → Request
asking c days numbers text = record { call = c; days = days; numbers = numbers; text = text }

-- a call's outcome with what its lent lists hold afterwards, as the account's answer
abbrev pub answer_of : Outcome → List ℕ → List ℕ → Answer
answer_of o numbers text = record {
  refusal = o.refusal;
  count = o.count;
  comparisons = o.comparisons;
  length = o.length;
  ticked = o.ticked;
  numbers = numbers;
  text = text;
}
