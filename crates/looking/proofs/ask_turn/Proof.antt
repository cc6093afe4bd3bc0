-- `looking::ask_turn` meets its contract. Assumes nothing.
use Rattle.basis.proofs.Prelude.{rules}
use Rattle.conversations.proofs.Turns.{ask_turned}
use Rattle.looking.proofs.ask_turn.{Statement.statement, Tie.{close, spec}}

pub ask_turn_spec : {M : Type 1} → statement M
ask_turn_spec = close (spec (λ c κs. search rules) (λ c κs. search rules) (λ c. search rules) (λ c. search ask_turned))
