-- `standing::words::standing_at` meets its contract. Assumes nothing.
use Rattle.standing.proofs.Names.{unpacked}
use Rattle.standing.proofs.words.standing_at.Goals as goal

pub returns : goal.returns
returns c = unfold unpacked in rw (c.all_at.ensures, c.from.ensures, c.all_at-2.ensures, c.from-2.ensures)
