-- What a word may do, by the number that a host knows it by. Assumes nothing.
use Rattle.std.specs.Prelude.{ℕ}
use Rattle.host_wire.specs.declared.Power.{Power}
use Rattle.host_wire.specs.declared.Power.TheVariants.{Reads, Changes, Replaces}

abbrev pub number_of : Power → ℕ
number_of Reads = 0
number_of Changes = 1
number_of Replaces = 2
