-- `standing_words::put_in` meets its contract. Assumes nothing.
use Rattle.standing_words.proofs.Changing.{puts_full, puts_none, puts_one}
use Rattle.standing_words.proofs.put_in.Goals as goal
use Rattle.standing_words.proofs.put_in.Goals.{in_default-via-in-None-1, in_default-via-in-Some+else-m-lt1024}

pub returns-then-m-lt1024 : goal.returns-then-m-lt1024
returns-then-m-lt1024 c = rw c.in-Some.is (puts_one c.args.words.now c.requires.words_len c.args.m c.requires.m_bound c.in-Some.s c.if-m-lt1024.true c.place-q.ensures.value c.place-q.ensures.upper_bound c.copy_within.ensures.after c.put.ensures)

pub returns-in_default : goal.returns-in_default
returns-in_default c = elim c.in_default.branch [
  | in_default-via-in-None-1 w ↦ search puts_none
  | in_default-via-in-Some+else-m-lt1024 w ↦ puts_full c.args.words.now c.requires.words_len c.args.m c.requires.m_bound w.in-Some.s w.in-Some.is w.if-m-lt1024.false
]
