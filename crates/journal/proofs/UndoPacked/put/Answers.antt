-- An entry's `put` meets its contract: two stores and its spell's words, where there is room. Assumes nothing.
use Rattle.basis.proofs.Prelude.{◌∙◌, arith}
use Rattle.packing.proofs.Blocks.{unput}
use Rattle.journal.specs.Words.{entry_long}
use Rattle.journal.proofs.Words.{entry_back, entry_held, put_entry}
use Rattle.journal.proofs.UndoPacked.put.Goals as goal

pub returns-in_default : goal.returns-in_default
returns-in_default c = unput _ _ _ _ c.args.at _ (entry_long _) (search entry_held) (omega (arith, c.in_default.ensures))

pub returns-then-last-at : goal.returns-then-last-at
returns-then-last-at c = unput _ _ _ _ c.args.at _ (entry_long _) (search entry_held) (omega (arith, c.in-Some.ensures))

pub returns : goal.returns
returns c = record { words = c.put.ensures.words ∙ rw c.from.ensures (put_entry c.args.self _ c.args.at (omega (arith, c.in-Some.ensures))); back = entry_back c.args.self c.put.ensures.back }
