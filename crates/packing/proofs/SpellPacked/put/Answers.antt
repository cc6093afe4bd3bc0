-- A spell's `put` meets its contract: its words are copied to where there is room. Assumes nothing.
use Rattle.basis.proofs.Prelude.{◌+◌, arith, refl}
use Rattle.packing.proofs.{Blocks.{put_part, unput}, Names.{spell_long, spell_of, spell_width, spell_words}, Words.{spell_back, spell_held}}
use Rattle.packing.proofs.SpellPacked.put.Goals as goal

pub returns-in_default : goal.returns-in_default
returns-in_default c = unput _ _ _ _ c.args.at _ (spell_long _) (search (spell_back, spell_held)) (omega (arith, c.in_default.ensures))

pub returns-then-last-at : goal.returns-then-last-at
returns-then-last-at c = unput _ _ _ _ c.args.at _ (spell_long _) (search (spell_back, spell_held)) (omega (arith, c.in-Some.ensures))

pub returns : goal.returns
unfolding spell_words
returns c = record {
  words = rw (c.copy_from_slice.ensures.after, c.kind_of.ensures, c.low_of.ensures, c.high_of.ensures, c.value_of-value.ensures)
      (put_part c.args.at (c.args.at + spell_width) (spell_words c.args.self) c.args.out.now refl (omega (arith, c.in-Some.ensures)));
  back = search (spell_back, spell_held);
}
