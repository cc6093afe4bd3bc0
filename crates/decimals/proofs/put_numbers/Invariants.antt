-- The decimals after those that are left stand in front of the text that follows. Assumes nothing.
use Rattle.decimals.proofs.Rows.{Rest}
use Rattle.decimals.proofs.put_numbers.Given as goal

abbrev pub invariant-loop-others : goal.invariant-loop-others
invariant-loop-others l = Rest l.numbers l.fn.buf l.at l.buf l.place l.others-iterator.iter.iter.rest.now l.others-iterator.count
