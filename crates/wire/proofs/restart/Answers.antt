-- `wire::restart` meets its contract: a text that is too long, one that is read, and one that is refused. Assumes nothing.
use Rattle.refusal.proofs.Numbers.{refused}
use Rattle.conversations.proofs.Turns.{restarted, register_long, register_read, says_refused, says_ok}
use Rattle.model.specs.Model.{begun}
use Rattle.replies.specs.Replies.{reading_text}
use Rattle.wire.proofs.restart.Goals as goal
use Rattle.wire.proofs.restart.Goals.{in-Ok, in-Err}

pub returns-then-length-gt-LONGEST_TEXT : goal.returns-then-length-gt-LONGEST_TEXT
unfolding begun reading_text
returns-then-length-gt-LONGEST_TEXT c = let e = register_long c.args.length c.args.payload.now c.if-length-gt-LONGEST_TEXT.true in
    restarted c.args.room c.min-room.ensures (rw e c.fresh.ensures.represents) (rw e (rw c.number.ensures at c.put_refused_line.ensures))

pub returns : goal.returns
returns c = let e = register_read c.args.length c.args.payload.now c.if-length-gt-LONGEST_TEXT.false in let b = c.read-r.ensures in elim c.match-r.branch [
  | in-Ok w ↦ rw (w.out-is, w.place-is) (restarted c.args.room c.min-room.ensures (rw e b.represents) (rw e (says_ok b (rw w.in-Ok.is) w.put_ok-place.ensures)))
  | in-Err w ↦ rw (w.out-is, w.place-is) (restarted c.args.room c.min-room.ensures (rw e b.represents)
      (rw e (says_refused b (λ z. refused w.in-Err.refused.refusal (rw w.in-Err.is at z)) (rw (w.in-Err.is, ← w.number-in-Err.ensures) w.put_refused_line-place.ensures))))
]
