-- What the private functions of the calls give. Assumes nothing.
use Rattle.std.specs.Prelude.{ℕ, ◌≡◌, List}
use Rattle.model.specs.declared.Call.{Call}
use Rattle.service.specs.declared.Service.{Service}
use Rattle.service.specs.declared.Stepped.{Stepped}
use Rattle.outcomes.specs.declared.Outcome.{Outcome}
use Rattle.outcomes.specs.Outcomes.{asking}
use Rattle.service.specs.Service.{Blocks, Met, Changes}

-- the outcome r of a call, beside the service that its edit gave, of which o is told: together they are the call's
pub record Beside (sv : Service) (bs : Blocks) (c : Call) (o : Outcome) (days numbers text : List ℕ) (r : Outcome) (bs' : Blocks) (numbers' text' : List ℕ) : Type 0 where
  pub met : (x : Stepped) → Changes sv c x → o ≡ x.outcome → Met sv bs (asking c days numbers text) (record { service = x.service; outcome = r }) bs' numbers' text'
