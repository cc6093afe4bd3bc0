-- The bytes that had arrived begin it, and each read goes on with it.
use Rattle.std.proofs.Common.{◌≡◌, length, min, arith, rules}
use Rattle.std.proofs.lemmas.List.{take_min}
use Rattle.serving.proofs.Answers.{comes, goes_on}
use Rattle.incoming.proofs.next.Goals as goal

pub loop-init : goal.loop-init
loop-init c =
    let to : c.min-to.result ≡ min c.args.end (length c.args.arrived.now) = search rules in
    comes c.args.end c.opened-frame.ensures (rw to (take_min c.args.end c.args.arrived.now)) (omega arith) (omega arith)

pub loop-preserved : goal.loop-preserved
loop-preserved c =
    goes_on c.loop.invariant c.advance.ensures c.in-Part.is c.wait.new.arrived c.loop.arrived c.in_ok-to.ensures (omega arith)
