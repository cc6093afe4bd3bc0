-- `standing::edit` meets its contract: what is decided of the call is carried out. Assumes nothing.
use Rattle.basis.proofs.Prelude.{◌∙◌}
use Rattle.standing.proofs.Plans.{carried}
use Rattle.standing.proofs.edit.Goals as goal

pub returns : goal.returns
returns c = carried c.requires c.args.call c.planned-planned.result c.last_place.ensures c.number_of.ensures c.find-found.ensures c.planned-planned.ensures.value c.planned-planned.ensures.takes
    (c.unwrap_or-plan.ensures ∙ rw c.unchanged.ensures) c.change.ensures (c.counted.ensures ∙ rw c.is_some.ensures) c.note.ensures (c.deeper.ensures ∙ rw c.is_some-2.ensures) c.and.ensures
