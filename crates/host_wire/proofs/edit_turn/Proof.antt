-- `host_wire::edit_turn` meets its contract. Assumes nothing.
use Rattle.host_wire.proofs.{Names.{edit_turned, lent, rules}, edit_turn.{Statement.statement, Tie.{close, spec}}}

pub edit_turn_spec : {M : Type 1} → statement M
edit_turn_spec = close (spec (λ c. search rules) (λ c. search rules) (λ c. search lent) (λ c. search lent) (λ c. search rules) (λ c. search edit_turned))
