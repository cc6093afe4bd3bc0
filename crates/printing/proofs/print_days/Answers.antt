-- A part more, and all of them: the parts have come to the day to go on with.
use Rattle.std.proofs.Common.{[], arith}
use Rattle.stand_text.{specs.Report.none, proofs.Parts.{printing_one, printing_whole}}
use Rattle.printing.proofs.print_days.Goals as goal

pub loop-d-init : goal.loop-d-init
loop-d-init c = λ p shows. record { text = []; come = none }

pub loop-d-preserved : goal.loop-d-preserved
loop-d-preserved c = printing_one c.loop-d.invariant c.days_part-part.ensures

pub returns : goal.returns
returns c = printing_whole c.loop-d.invariant (omega arith)
