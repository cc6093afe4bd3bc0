-- `repair_lines::put_two` meets its contract. Assumes nothing.
use Rattle.repair_text.proofs.Lines.{ending, said}
use Rattle.repair_lines.proofs.put_two.Goals as goal

pub returns : goal.returns
returns c = search (said, ending) depth 8
