-- `request_fields::length_asked` meets its contract. Assumes nothing.
use Rattle.requests.proofs.Names.{asked_by}
use Rattle.request_fields.proofs.Layouts.{last, onto, unread}
use Rattle.request_fields.proofs.length_asked.Goals as goal

pub returns-in_default : goal.returns-in_default
unfolding asked_by
returns-in_default c room = rw (← c.limit_of.ensures) (unread _ _ c.read_length.ensures.says c.in_default.is)

pub returns : goal.returns
unfolding asked_by
returns c room =
    rw (← c.limit_of.ensures) (onto _ _ c.read_length.ensures.says _ c.in-Some.is (last _ _ c.if_ended.ensures c.length_request.ensures))
