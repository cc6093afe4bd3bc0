-- `reply_lines::put_refused` meets its contract. Assumes nothing.
use Rattle.replies.{specs.Replies.refused_text, proofs.Sending.placing}
use Rattle.reply_lines.proofs.put_refused.Goals as goal

pub returns : goal.returns
unfolding refused_text
returns c = search placing depth 8
