-- What the reader of a hex digit answers. Assumes nothing.
use Rattle.std.specs.Prelude.{ℕ, cond, ltb, Option, Some, None}
use Rattle.fields.specs.Fields.{hex_value}

-- the value of a digit, none for any other byte
abbrev pub value_of : ℕ → Option ℕ
value_of b = cond (ltb (hex_value b) 16) (Some (hex_value b)) None
