-- The loop's invariant: service and blocks are what the calls gave.
use Rattle.service.specs.Service.{blocks, Given}
use Rattle.serve.proofs.converse.Given as goal

abbrev pub invariant-loop : goal.invariant-loop
invariant-loop l = Given l.service (blocks l.index)
