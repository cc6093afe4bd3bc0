-- An entry's `at` meets its contract. Assumes nothing.
use Rattle.basis.proofs.Prelude.{◌∙◌, arith, sym}
use Rattle.journal.proofs.Words.{entry_at, entry_none}
use Rattle.journal.proofs.UndoPacked.at.Goals as goal

pub returns-in_default : goal.returns-in_default
returns-in_default c = c.none.ensures ∙ sym (entry_none _ c.args.at (omega (arith, c.in_default.ensures)))

pub returns-then-last-at : goal.returns-then-last-at
returns-then-last-at c = c.none-then-last-at.ensures ∙ sym (entry_none _ c.args.at (omega (arith, c.in-Some.ensures)))

pub returns : goal.returns
returns c = rw c.at.ensures (sym (entry_at _ c.args.at (omega (arith, c.in-Some.ensures))))
