-- `spell_checks::same` meets its contract. Assumes nothing.
use Rattle.basis.proofs.Prelude.{arith}
use Rattle.std.proofs.lemmas.Bool.Decides.{nat_tests}
use Rattle.spell.specs.Same.{same_of}
use Rattle.spell_checks.proofs.same.Goals as goal

pub returns-then-a-b-4 : goal.returns-then-a-b-4
unfolding same_of
returns-then-a-b-4 c = grind (arith, nat_tests)

pub returns-else-a-b-4 : goal.returns-else-a-b-4
unfolding same_of
returns-else-a-b-4 c = grind (arith, nat_tests)
