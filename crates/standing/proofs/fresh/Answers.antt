-- `standing::fresh` meets its contract. Assumes nothing.
use Rattle.standing.proofs.{Loading.fresh_is}
use Rattle.standing.proofs.fresh.Goals as goal

pub returns : goal.returns
returns c = rw (c.blank.ensures, c.none.ensures) fresh_is
