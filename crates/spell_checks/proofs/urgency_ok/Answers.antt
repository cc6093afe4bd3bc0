-- `spell_checks::urgency_ok` meets its contract. Assumes nothing.
use Rattle.basis.proofs.Prelude.{◌∙◌, ap, sym}
use Rattle.spell.{proofs.Entered.by_bits, specs.Entry.urgency_ok}
use Rattle.spell_checks.proofs.urgency_ok.Goals as goal

pub returns-in-Reading : goal.returns-in-Reading
returns-in-Reading c = rw c.bits_of.ensures (by_bits _) ∙ sym (ap urgency_ok c.in-Reading.is)
