-- A spell's `at` meets its contract. Assumes nothing.
use Rattle.basis.proofs.Prelude.{arith}
use Rattle.packing.proofs.Words.{spell_none, spell_read}
use Rattle.packing.proofs.SpellPacked.at.Goals as goal

pub returns-in_default : goal.returns-in_default
returns-in_default c = spell_none _ c.args.at (omega arith) c.blank.ensures

pub returns-then-last-at : goal.returns-then-last-at
returns-then-last-at c = spell_none _ c.args.at (omega arith) c.blank-then-last-at.ensures

pub returns : goal.returns
returns c = spell_read _ c.args.at c.join-value.ensures c.urgency_of.ensures (omega arith)
