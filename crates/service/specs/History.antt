-- Calls made on one service, one after another, by whatever code. Assumes nothing.
use Rattle.std.specs.Prelude.{ℕ, List, [], ◌∷◌}
use Rattle.model.specs.Model.{Request, Answer}
use Rattle.outcomes.specs.Outcomes.{answer_of}
use Rattle.service.specs.declared.Service.{Service}
use Rattle.service.specs.declared.Stepped.{Stepped}
use Rattle.service.specs.Service.{Blocks, Given, Met}

-- One call: the service sv with the blocks bs is asked q, and gives r, with left in the blocks, numbers and text in the lent lists.
-- Of what it gives no more is known than the contract of `step`: its `requires` implies its `ensures`.
abbrev pub Steps : Service → Blocks → Request → Stepped → Blocks → List ℕ → List ℕ → Type 0
Steps sv bs q r left numbers text = Given sv bs → Met sv bs q r left numbers text

-- A list of calls: sv with bs is asked qs, which are answered so, and leave sv' and bs'. The next call is made on the service that
-- this one returned, with the blocks as this one left them, and nobody else writes them meanwhile.
pub data Made : Service → Blocks → List Request → List Answer → Service → Blocks → Type 0 where
  none : {sv : Service} {bs : Blocks} → Made sv bs [] [] sv bs
  then : {sv sv' : Service} {bs bs' : Blocks} {q : Request} {qs : List Request} {answers : List Answer}
      (r : Stepped) (left : Blocks) (numbers text : List ℕ)
      → Steps sv bs q r left numbers text
      → Made r.service left qs answers sv' bs'
      → Made sv bs (q ∷ qs) (answer_of r.outcome numbers text ∷ answers) sv' bs'
