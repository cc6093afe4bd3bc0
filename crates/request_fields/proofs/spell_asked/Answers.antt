-- `request_fields::spell_asked` meets its contract. Assumes nothing.
use Rattle.requests.proofs.Names.{asked_by, asks, spell_call}
use Rattle.request_fields.proofs.Layouts.{last, onto, unread}
use Rattle.request_fields.proofs.spell_asked.Goals as goal

pub returns-in_default : goal.returns-in_default
unfolding asked_by
returns-in_default c room = unread _ _ c.read_line.ensures.says c.in_default.is

pub returns : goal.returns
unfolding asked_by
returns c room = onto _ _ c.read_line.ensures.says _ c.in-Some.is (last (asks (spell_call c.args.w c.in-Some.s)) _ c.if_ended.ensures (rw c.spell_call.ensures))
