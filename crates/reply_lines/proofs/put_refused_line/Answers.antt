-- `reply_lines::put_refused_line` meets its contract. Assumes nothing.
use Rattle.replies.{specs.Replies.refused_line, proofs.Sending.placing}
use Rattle.reply_lines.proofs.put_refused_line.Goals as goal

pub returns : goal.returns
unfolding refused_line
returns c = search placing depth 8
