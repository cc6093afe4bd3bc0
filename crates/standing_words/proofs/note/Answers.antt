-- `standing_words::note` meets its contract. Assumes nothing.
use Rattle.standing_words.proofs.Changing.{notes_full, notes_room}
use Rattle.standing_words.proofs.note.Goals as goal

pub returns-then-d-lt64 : goal.returns-then-d-lt64
returns-then-d-lt64 c = rw c.in-Some.is (notes_room c.args.journal.now c.args.d c.in-Some.e c.requires c.if-d-lt64.true c.put.ensures)

pub returns-else-d-lt64 : goal.returns-else-d-lt64
returns-else-d-lt64 c = rw c.in-Some.is (notes_full c.args.journal.now c.args.d c.in-Some.e c.requires c.if-d-lt64.false c.copy_within.ensures.after c.put-else-d-lt64.ensures)
