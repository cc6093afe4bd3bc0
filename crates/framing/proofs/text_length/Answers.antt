-- `framing::text_length` meets its contract. Assumes nothing.
use Rattle.framing.proofs.Names.{wants}
use Rattle.framing.proofs.text_length.Goals as goal

pub returns : goal.returns
unfolding wants
returns c = c.text_length.ensures 32768
