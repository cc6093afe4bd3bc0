-- The loop's invariant: what is kept and what has arrived make what all bytes read so far make.
use Rattle.serving.{specs.Serving.{between}, proofs.Answers.{Coming}}
use Rattle.incoming.proofs.next.Given as goal

abbrev pub invariant-loop : goal.invariant-loop
invariant-loop l = Coming (between l.fn.arrived l.fn.start l.fn.end) l.arrived l.line l.payload l.frame l.at l.to
