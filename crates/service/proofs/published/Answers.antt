-- `service::published` meets its contract: what came of the index is told. Assumes nothing.
use Rattle.basis.proofs.Prelude.{◌∙◌, ap, refl}
use Rattle.service.proofs.{Names.told_of}
use Rattle.service.proofs.published.Goals as goal

pub returns : goal.returns
returns c = record { kept = refl; outcome = c.told.ensures ∙ ap told_of c.publish.ensures.value; index = c.publish.ensures.index_after }
