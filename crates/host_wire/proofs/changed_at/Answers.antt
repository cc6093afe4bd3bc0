-- `host_wire::changed_at` meets its contract. Assumes nothing.
use Rattle.host_wire.proofs.Names.{◌≡◌, refl, Bool, true, false, cond, changed_at, from_bool}
use Rattle.host_wire.proofs.changed_at.Goals as goal

bit_of : (b : Bool) → from_bool b ≡ cond b 1 0
bit_of true = refl
bit_of false = refl

pub returns-in-Reads : goal.returns-in-Reads
unfolding changed_at
returns-in-Reads c = rw c.in-Reads.is

pub returns-in-Changes : goal.returns-in-Changes
unfolding changed_at
returns-in-Changes c = rw (c.in-Changes.is, ← c.is_at.ensures) (bit_of c.is_at.result)

pub returns-in-Replaces : goal.returns-in-Replaces
unfolding changed_at
returns-in-Replaces c = rw c.in-Replaces.is
