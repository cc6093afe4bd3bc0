-- `replay::calls` meets its contract. The invariant is Going: what is done, followed by what is still to come, is the whole. Assumes nothing.
use Rattle.replay.proofs.{Names.{next_room}, Runs.{ended_all, ended_stop, starts, turned}}
use Rattle.replay.proofs.calls.Goals as goal

pub loop-k-init : goal.loop-k-init
loop-k-init c = search starts

pub returns-in_default : goal.returns-in_default
returns-in_default c = search ended_stop

pub make-r-requires-clause-room : goal.make-r-requires-clause-room
make-r-requires-clause-room c = next_room c.next_of.ensures c.in-Some.is

pub loop-k-preserved : goal.loop-k-preserved
loop-k-preserved c = search turned

pub returns : goal.returns
returns c = search ended_all
