use Rattle.replay.proofs.{Names.{blocks}, Runs.{Going}}
use Rattle.replay.proofs.calls.Given as goal

abbrev pub invariant-loop-k : goal.invariant-loop-k
invariant-loop-k l = Going l.initial.service (blocks l.fn.index) l.codes l.days l.fn.results l.fn.numbers l.fn.text l.whole l.service (blocks l.index) l.results l.numbers l.text l.k l.at.days l.at.numbers l.at.text
