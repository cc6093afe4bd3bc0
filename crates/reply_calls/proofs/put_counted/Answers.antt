-- `reply_calls::put_counted` meets its contract. Assumes nothing.
use Rattle.replies.proofs.Sending.{placing}
use Rattle.reply_calls.specs.Counted.{counted_text}
use Rattle.reply_calls.proofs.Counted.{placed_comparisons}
use Rattle.reply_calls.proofs.put_counted.Goals as goal

pub returns : goal.returns
unfolding counted_text
returns c = search (placing, placed_comparisons) depth 9
