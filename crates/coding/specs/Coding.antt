-- Which lists of calls have words: every list whose numbers, days, readings and masks are as wide as the program's. Assumes nothing.
use Rattle.std.specs.Prelude.{ℕ, ◌*◌, ◌≤◌, ◌<◌, ◌≡◌, List, length}
use Rattle.packing.specs.Words.{Narrow}
use Rattle.packing.specs.Blocks.{written, Every}
use Rattle.model.specs.Model.{Request}
use Rattle.coding.specs.Coded.{result_width, decode, Value, urgent, masked, Fields, fields_of}

-- ---- What has a coding

-- numbers, days and grades are of 16 bits, a reading is a 32-bit float, and a mask has 64 bits
abbrev pub Wide : Value → Type 0
Wide (urgent u) = Narrow u
Wide (masked k) = k < 18446744073709551616

pub record Fits (f : Fields) : Type 0 where
  pub number : f.number < 65536
  pub candidate : f.candidate < 65536
  pub first : f.first < 65536
  pub last : f.last < 65536
  pub value : Wide f.value

-- a call with such fields, whose lent lists have lengths of 64 bits
pub record Codable (q : Request) : Type 0 where
  pub call : Fits (fields_of q.call)
  pub days : length q.days < 18446744073709551616
  pub numbers : length q.numbers < 18446744073709551616
  pub text : length q.text < 18446744073709551616

-- the lists that the calls are lent, end to end
abbrev pub lent_days : List Request → List ℕ
lent_days qs = written (λ (q : Request). q.days) qs

abbrev pub lent_numbers : List Request → List ℕ
lent_numbers qs = written (λ (q : Request). q.numbers) qs

abbrev pub lent_text : List Request → List ℕ
lent_text qs = written (λ (q : Request). q.text) qs

-- words of 64 bits that code these calls: with the calls' own lists end to end, and places for their results, they decode to them
pub record Coding (qs : List Request) : Type 0 where
  pub codes : List ℕ
  pub narrow : Every (λ (w : ℕ). w < 18446744073709551616) codes
  pub decodes : (results : List ℕ) → result_width * length qs ≤ length results
      → decode codes (lent_days qs) results (lent_numbers qs) (lent_text qs) ≡ qs
