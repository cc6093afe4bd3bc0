-- `host_wire::power_of` meets its contract. Assumes nothing.
use Rattle.host_wire.proofs.Names.{◌<◌, ◌≢◌, arith, lt-ltb, ne_eqb, power_high, power_mid, power_of}
use Rattle.host_wire.proofs.power_of.Goals as goal

pub returns-in-2 : goal.returns-in-2
unfolding power_of
returns-in-2 c = rw c.in-2.is

pub returns-in-16-to-31 : goal.returns-in-16-to-31
returns-in-16-to-31 c = power_mid c.args.word (omega arith) (omega arith)

pub returns-in_default : goal.returns-in_default
unfolding power_of
returns-in_default c = let other : c.args.word ≢ 2 = omega arith in let low : c.args.word < 16 = omega arith in rw (ne_eqb _ _ other, lt-ltb _ _ low)

pub returns-in_default-2 : goal.returns-in_default-2
returns-in_default-2 c = power_high c.args.word (omega arith)
