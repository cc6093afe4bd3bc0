-- The measure is what is left of the input.
use Rattle.std.proofs.Common.{length}
use Rattle.register_cases.proofs.vectors.Given as goal

abbrev pub decreases-loop-end : goal.decreases-loop-end
decreases-loop-end l = length l.rest
