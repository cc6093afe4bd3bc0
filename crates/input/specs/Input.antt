-- What reading the input leaves. Assumes nothing.
use Rattle.std.specs.Prelude.{ℕ, ◌≤◌, Result, Ok, Err}

-- no more bytes were read than there is room for
abbrev pub Within : {E : Type 0} → ℕ → Result ℕ E → Type 0
Within room (Ok n) = n ≤ room
Within room (Err error) = Unit {0}
