-- Reading the digits left from the place i with the value v gives what was to be read. Assumes nothing.
use Prim.Native.Nat.{◌^◌}
use Rattle.basis.proofs.Prelude.{◌≡◌, ◌-◌, ◌<◌, drop}
use Rattle.fields.specs.Fields.{read_hex}
use Rattle.hexadecimals.proofs.read_hex.Given as goal

abbrev pub invariant-loop : goal.invariant-loop
invariant-loop l = (l.v < 16 ^ l.counter) × (read_hex l.digits 0 (drop l.start l.text) ≡ read_hex (l.digits - l.counter) l.v (drop l.i l.text))
