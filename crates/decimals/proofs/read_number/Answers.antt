-- `decimals::read_number` meets its contract: a length that is read is at most the limit. Assumes nothing.
use Rattle.decimals.proofs.{Decimals.length_within, Names.{arith, said}}
use Rattle.decimals.proofs.read_number.Goals as goal

pub overflow_cast-result : goal.overflow_cast-result
overflow_cast-result c = omega (arith, length_within c.from.result _ _ _ _ (said c.read_length.ensures c.in_ok-v.was))
