-- `stand_lines::days_part` meets its contract. Assumes nothing.
use Rattle.basis.proofs.Prelude.{inl, inr, arith}
use Rattle.stand_text.proofs.Parts.{line_sized, filled_one, filled_all}
use Rattle.stand_lines.proofs.days_part.Goals as goal

pub loop-d-preserved : goal.loop-d-preserved
loop-d-preserved c =
    let so = c.loop-d.invariant in
    record {
      sized = line_sized so.sized c.day_line-at.ensures c.requires;
      filled = filled_one c.requires so.filled so.sized (omega arith) (omega arith) (omega arith) c.day_line-at.ensures c.append-bytes.ensures;
    }

pub returns-else-bytes-le-ROOMY : goal.returns-else-bytes-le-ROOMY
returns-else-bytes-le-ROOMY c = filled_all c.requires c.loop-d.invariant.filled (inr (omega arith))

pub returns-after-loop-d : goal.returns-after-loop-d
returns-after-loop-d c = filled_all c.requires c.loop-d.invariant.filled (inl (omega arith))
