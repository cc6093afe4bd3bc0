-- `standing_words::place` meets its contract. Assumes nothing.
use borrow.Author.Count.{below_more}
use Rattle.basis.proofs.Prelude.{arith}
use Rattle.standing_words.proofs.Reading.{earlier_is, place_end, place_here}
use Rattle.standing_words.proofs.place.Goals as goal

pub returns-then-not-earlier : goal.returns-then-not-earlier
returns-then-not-earlier c = record {
  value = place_here _ c.args.m c.args.s c.requires.m_bound c.loop-i-test.true c.loop-i.invariant
      (earlier_is _ c.args.m c.args.s c.requires.m_bound c.loop-i-test.true c.at-x.ensures c.earlier.ensures c.if-not-earlier.true);
  upper_bound = omega arith;
}

pub loop-i-preserved : goal.loop-i-preserved
loop-i-preserved c = below_more _ _ c.loop-i.invariant
    (earlier_is _ c.args.m c.args.s c.requires.m_bound c.loop-i-test.true c.at-x.ensures c.earlier.ensures c.if-not-earlier.false)

pub returns : goal.returns
returns c = record { value = place_end _ c.args.m c.args.s c.requires.m_bound (λ j h. c.loop-i.invariant j (omega arith)); upper_bound = omega arith }
