-- `spell_checks::earlier` meets its contract. Assumes nothing.
use Rattle.basis.proofs.Prelude.{arith}
use Rattle.std.proofs.lemmas.Bool.Decides.{nat_tests}
use Rattle.spell.specs.Order.{earlier_of}
use Rattle.spell_checks.proofs.earlier.Goals as goal

pub returns : goal.returns
unfolding earlier_of
returns c = grind (arith, nat_tests, c.lt.ensures)
