-- `request_fields::pair_asked` meets its contract. Assumes nothing.
use Rattle.basis.proofs.Prelude.{refl}
use Rattle.requests.proofs.Names.{asked_by}
use Rattle.request_fields.proofs.Layouts.{last, onto, unread}
use Rattle.request_fields.proofs.pair_asked.Goals as goal

pub returns-in_default : goal.returns-in_default
unfolding asked_by
returns-in_default c room = unread _ _ c.read_number.ensures.says c.in_default.is

pub returns-in_default-read_number : goal.returns-in_default-read_number
unfolding asked_by
returns-in_default-read_number c room =
    onto _ _ c.read_number.ensures.says _ c.in-Some.is (unread _ _ c.read_number-2.ensures.says c.in_default-read_number.is)

pub returns : goal.returns
unfolding asked_by
returns c room =
    onto _ _ c.read_number.ensures.says _ c.in-Some.is
    (onto _ _ c.read_number-2.ensures.says _ c.in-Some-read_number.is (last _ _ c.if_ended.ensures refl))
