-- `service::beside` meets its contract. Assumes nothing.
use Rattle.basis.proofs.Prelude.{inl, inr}
use Rattle.service.proofs.{Asking.{asked_met, edits_beside, keeps_beside, wrote_met}, Beginning.publishes_met}
use Rattle.service.proofs.beside.Goals as goal

-- enter, amend, strike, take back
pub returns-in-Enter : goal.returns-in-Enter
returns-in-Enter c = elim c.in-Enter.is [
  | inl enter ↦ edits_beside enter.1 (λ x d. d) c.requires
  | inr rest ↦ elim rest [
    | inl amend ↦ edits_beside amend.1 (λ x d. d) c.requires
    | inr rest ↦ elim rest [ inl strike ↦ edits_beside strike.1 (λ x d. d) c.requires | inr back ↦ edits_beside back (λ x d. d) c.requires ]
  ]
]

pub returns-in-Publish : goal.returns-in-Publish
returns-in-Publish c = keeps_beside c.in-Publish.is (λ x d. d) (publishes_met c.published.ensures _ _ _ c.requires)

pub returns-in-Write : goal.returns-in-Write
returns-in-Write c = keeps_beside c.in-Write.is (λ x d. d) (wrote_met c.write.ensures c.requires)

pub returns-in-Ask : goal.returns-in-Ask
returns-in-Ask c = keeps_beside c.in-Ask.is (λ x d. d) (asked_met c.ask.ensures _ _ c.requires)
