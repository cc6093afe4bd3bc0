-- `reply_lines::put_alone` meets its contract. Assumes nothing.
use Rattle.replies.proofs.Sending.{placing}
use Rattle.reply_lines.proofs.put_alone.Goals as goal

pub returns : goal.returns
returns c = search placing
