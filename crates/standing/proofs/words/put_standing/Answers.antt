-- `standing::words::put_standing` meets its contract. Assumes nothing.
use Rattle.standing.proofs.Packed.{put_standing}
use Rattle.standing.proofs.words.put_standing.Goals as goal

pub returns : goal.returns
returns c = search put_standing
