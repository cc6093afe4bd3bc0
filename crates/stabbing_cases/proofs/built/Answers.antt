-- Where the builder answers true, what it leaves is the block of the rows.
use Rattle.std.proofs.Common.{rules}
use Rattle.stabbing_cases.proofs.Building.{block}
use Rattle.stabbing_cases.proofs.built.Goals as goal

pub own_numbers-requires : goal.own_numbers-requires
own_numbers-requires c = block c.build.ensures c.if-build.true (search rules) (search rules)
