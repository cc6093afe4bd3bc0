-- `standing_words::change` meets its contract. Assumes nothing.
use Rattle.basis.proofs.Prelude.{arith}
use Rattle.standing_words.proofs.Changing.{changes, left_in}
use Rattle.standing_words.proofs.change.Goals as goal

pub put_in-requires : goal.put_in-requires
put_in-requires c = record { m_bound = search left_in; words_len = omega (arith, c.take_out.ensures.long) }

pub returns : goal.returns
returns c = search changes
