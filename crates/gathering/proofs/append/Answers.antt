-- `gathering::append` meets its contract. Assumes nothing.
use Rattle.basis.proofs.Prelude.{arith, ⊎_elim}
use Rattle.gathering.proofs.Gathering.{copied, none_appended}
use Rattle.gathering.proofs.append.Goals as goal

pub returns-in_default : goal.returns-in_default
returns-in_default c = none_appended _ _ _ _ (⊎_elim (λ k. k) (λ k. omega arith) c.in_default.ensures.lookup.0)

pub returns : goal.returns
returns c =
    let whole = c.in-Some.ensures.lookup.0 in
    copied _ _ _ _ whole.2 whole.0 c.if-list-n.false c.if-list-n-2.false c.copy_from_slice.ensures.after
