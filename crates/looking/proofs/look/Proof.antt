-- `looking::look` meets its contract. Assumes nothing.
use Rattle.basis.proofs.Prelude.{arith, rules}
use Rattle.requests.proofs.Asking.{parsed_days, parsed_room}
use Rattle.conversations.proofs.Turns.{looks}
use Rattle.looking.proofs.look.{Statement.statement, Tie.{close, spec}}

pub look_spec : {M : Type 1} → statement M
look_spec = close (spec
    (λ c κs. search rules) (λ c κs. search rules)
    (λ c κs. (search, ((omega arith, search parsed_room, search parsed_days), omega arith)))
    (λ c. search (looks, arith)))
