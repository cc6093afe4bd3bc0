-- `standing_words::take_out` meets its contract. Assumes nothing.
use Rattle.standing_words.proofs.Changing.{takes_one}
use Rattle.standing_words.proofs.take_out.Goals as goal

pub returns-then-p-n : goal.returns-then-p-n
returns-then-p-n c = takes_one c.args.words.now c.requires.words_len c.args.n c.args.p c.requires.n_bound c.if-p-n.true c.copy_within.ensures.after
