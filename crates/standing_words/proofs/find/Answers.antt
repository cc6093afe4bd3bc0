-- `standing_words::find` meets its contract. Assumes nothing.
use borrow.Author.Count.{below_more}
use Rattle.basis.proofs.Prelude.{arith}
use Rattle.standing_words.proofs.Reading.{found_here, found_none, passed}
use Rattle.standing_words.proofs.find.Goals as goal

pub returns-then-words-i : goal.returns-then-words-i
returns-then-words-i c = found_here _ c.args.n c.args.k c.requires.n_bound c.requires.words_len c.loop-i-test.true c.loop-i.invariant c.if-words-i.true c.at-spell.ensures

pub loop-i-preserved : goal.loop-i-preserved
loop-i-preserved c = below_more _ _ c.loop-i.invariant (passed _ c.args.n c.args.k c.requires.n_bound c.requires.words_len c.loop-i.i c.loop-i-test.true c.if-words-i.false)

pub returns : goal.returns
returns c = found_none _ c.args.n c.args.k c.requires.n_bound c.requires.words_len (λ j h. c.loop-i.invariant j (omega arith)) c.blank.ensures
