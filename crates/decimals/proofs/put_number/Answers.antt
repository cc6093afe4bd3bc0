-- `decimals::put_number` meets its contract. Assumes nothing.
use Rattle.decimals.proofs.Names.{decimal_of, rules}
use Rattle.decimals.proofs.put_number.Goals as goal

pub returns : goal.returns
unfolding decimal_of
returns c = search rules
