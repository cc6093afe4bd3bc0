-- Publishing leaves an index that shows the register's spells.
use Rattle.std.proofs.Common.{[], refl}
use Rattle.service.proofs.{Beginning.{publishes_given, publishes_met}, Represented.represented}
use Rattle.stand_text.proofs.Parts.{printed_of}
use Rattle.stand.proofs.stand.Goals as goal

pub print_days-requires : goal.print_days-requires
print_days-requires c = (publishes_given c.publish.ensures refl c.read-started.ensures.represents.valid).published

pub returns : goal.returns
returns c =
    let begun = c.read-started.ensures.represents in
    let met = publishes_met c.publish.ensures [] [] [] (represented begun) in
    printed_of _ c.print_days.ensures (met.after _ begun).shows
