-- What the answers of the program say, and what writing leaves in the list that it is lent. Assumes nothing.
use Rattle.std.specs.Prelude.{◌≡◌, cond, leb, ℕ, ◌-◌, List, ◌++◌, length, replicate, Result, Ok, Err}
use Rattle.buffer.specs.Buffer.{over}
use Rattle.refusal.specs.Table.{accepted, short_buffer}
use Rattle.refusal.specs.Numbers.{number_of}
use Rattle.refusal.specs.declared.Refusal.{Refusal}
use Rattle.spell.specs.declared.Spell.{Spell}
use Rattle.spell.specs.Blank.{blank}
use Rattle.register.specs.declared.Reading.{Reading}
use Rattle.register.specs.declared.Refused.{Refused}
use Rattle.register.specs.Text.{Register, good, bad}

-- ---- Reading

-- what a reading tells: the spells in the first places and their count, or the refusal's number and line
pub record Read : Type 0 where
  pub spells : List Spell
  pub count : ℕ
  pub refusal : ℕ
  pub line : ℕ

abbrev pub reading_in : Result Reading Refused → Read
reading_in (Ok got) = record { spells = got.spells; count = got.count; refusal = accepted; line = 0 }
reading_in (Err met) = record { spells = replicate 1024 blank; count = 0; refusal = number_of met.refusal; line = met.line }

-- what the reading of a text tells
unfoldable pub reading_of : Register → Read
reading_of (good l) = record { spells = l ++ replicate (1024 - length l) blank; count = length l; refusal = accepted; line = 0 }
reading_of (bad k n) = record { spells = replicate 1024 blank; count = 0; refusal = k; line = n }

-- ---- Writing

-- what a writing tells: the text's length, or the refusal's number
pub record Written : Type 0 where
  pub refusal : ℕ
  pub length : ℕ

abbrev pub written_in : Result ℕ Refusal → Written
written_in (Ok n) = record { refusal = accepted; length = n }
written_in (Err refusal) = record { refusal = number_of refusal; length = 0 }

-- a text's writing into a lent list of n places: its length, or "short list"
abbrev pub written_of : List ℕ → ℕ → Written
written_of t n =
    cond (leb (length t) n) (record { refusal = accepted; length = length t }) (record { refusal = short_buffer; length = 0 })

-- what the lent list holds after: the text in its first places, and later places as they were; where it is too short
-- every place is kept
abbrev pub out_of : List ℕ → List ℕ → List ℕ
out_of t entry = cond (leb (length t) (length entry)) (over t entry) entry

pub record Writes (t entry : List ℕ) (r : Written) (exit : List ℕ) : Type 0 where
  pub answer : r ≡ written_of t (length entry)
  pub places : exit ≡ out_of t entry
