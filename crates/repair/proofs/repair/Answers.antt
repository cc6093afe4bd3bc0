-- The remarks lie inside their list.
use Rattle.std.proofs.Common.{arith}
use Rattle.repairing.proofs.Claims.{within}
use Rattle.repair.proofs.repair.Goals as goal

pub say_dropped-requires : goal.say_dropped-requires
say_dropped-requires c = omega (arith, within c.in-Ok.ensures)
