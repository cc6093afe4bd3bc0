-- `register_write::put_line` meets its contract. Assumes nothing.
use Rattle.register_write.proofs.{Backward.line_put}
use Rattle.register_write.proofs.put_line.Goals as goal

pub returns : goal.returns
returns c = search line_put
