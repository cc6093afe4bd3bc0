-- `standing_journal::push` meets its contract. Assumes nothing.
use Rattle.basis.proofs.Prelude.{rules}
use Rattle.standing_journal.proofs.Names.{push_full, push_room}
use Rattle.standing_journal.proofs.push.Goals as goal

pub returns-then-depth-lt64 : goal.returns-then-depth-lt64
returns-then-depth-lt64 c = search (push_room, rules)

pub returns-else-depth-lt64 : goal.returns-else-depth-lt64
returns-else-depth-lt64 c = push_full c.args.journal.now c.args.depth c.args.e (search rules) _ c.if-depth-lt64.false c.copy_within.ensures.after
