-- `rules::last_day` meets its contract. Assumes nothing.
use Rattle.basis.proofs.Prelude.{eq-eqb, ne_eqb, eqb, by_test}
use Rattle.rules.specs.Rules.{last_of}
use Rattle.rules.proofs.last_day.Goals as goal

pub returns-in-Reading : goal.returns-in-Reading
unfolding last_of
returns-in-Reading c = rw (eq-eqb _ _ c.if-rule-eq2.true, c.in-Reading.is) c.lapsed.ensures

pub returns-in_default : goal.returns-in_default
unfolding last_of
returns-in_default c = rw (ne_eqb _ _ c.if-rule-eq2.false)

pub returns-in_default-2 : goal.returns-in_default-2
unfolding last_of
returns-in_default-2 c = rw c.in_default.is (by_test (eqb c.args.rule 2) (λ e. rw e) (λ e. rw e))
