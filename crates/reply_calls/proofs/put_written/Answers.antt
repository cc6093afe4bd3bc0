-- `reply_calls::put_written` meets its contract. Assumes nothing.
use Rattle.replies.{specs.Replies.written_text, proofs.Sending.placing}
use Rattle.reply_calls.proofs.put_written.Goals as goal

pub returns : goal.returns
unfolding written_text
returns c = search placing depth 8
