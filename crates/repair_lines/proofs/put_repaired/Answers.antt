-- `repair_lines::put_repaired` meets its contract. Assumes nothing.
use Rattle.repair_text.{specs.Lines.repaired_word, proofs.Lines.{ending, said}}
use Rattle.repair_lines.proofs.put_repaired.Goals as goal

pub returns : goal.returns
returns c = search (said repaired_word, ending) depth 8
