-- `reply_calls::put_reply` meets its contract: what fits its lists, and what does not. Assumes nothing.
use Rattle.replies.proofs.{Sending.placing, Fitting.{fitted, put_whole, put_nothing}}
use Rattle.reply_calls.proofs.put_reply.Goals as goal

pub put_fitting-requires : goal.put_fitting-requires
put_fitting-requires c = search fitted

pub returns-then-fits : goal.returns-then-fits
returns-then-fits c = search put_whole

pub returns : goal.returns
returns c = search (put_nothing, placing)
