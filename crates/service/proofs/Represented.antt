-- A service and its blocks are what the calls gave exactly if they stand for a state. Assumes nothing.
use Rattle.basis.proofs.Prelude.{refl}
use Rattle.service.proofs.Names.{list_of, pasts, with_published, fresh, Service, Blocks, Represents, Given}
use Rattle.model.specs.Model.{State, with_standing}

pub represented : {sv : Service} {bs : Blocks} {m : State} → Represents sv bs m → Given sv bs
represented r = record { valid = r.valid; published = record { list = _; shows = r.shows } }

module _ {sv : Service} {bs : Blocks} (g : Given sv bs) where
  abbrev pub state_of : State
  state_of = with_published g.published.list (with_standing (list_of sv.standing) (pasts sv.standing) fresh)

  pub stands : Represents sv bs state_of
  stands = record { valid = g.valid; standing = refl; past = refl; shows = g.published.shows }
