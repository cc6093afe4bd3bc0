-- `reply_calls::put_listed` meets its contract. Assumes nothing.
use Rattle.replies.proofs.Sending.{placing}
use Rattle.reply_calls.proofs.Counted.{placed_counted}
use Rattle.reply_calls.proofs.put_listed.Goals as goal

pub returns : goal.returns
returns c = search (placing, placed_counted) depth 8
