-- `reply_calls::put_ticked` meets its contract. Assumes nothing.
use Rattle.replies.{proofs.Sending.placing}
use Rattle.reply_calls.proofs.Counted.{placed_counted, ticked_counted}
use Rattle.reply_calls.proofs.put_ticked.Goals as goal

pub returns : goal.returns
returns c = rw (← ticked_counted _ _ _) (search (placing, placed_counted) depth 8)
