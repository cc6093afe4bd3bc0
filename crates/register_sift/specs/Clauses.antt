-- What the parts of the sifting ask and give. Assumes nothing.
use Rattle.std.specs.Prelude.{ℕ, ◌<◌, ◌≤◌, ◌≡◌, Bool, false, List, length, get_or, drop, Result, Ok, Err}
use Rattle.spell.specs.declared.Spell.{Spell}
use Rattle.spell.specs.Listing.{stands}
use Rattle.fields.specs.Fields.{found}
use Rattle.register.specs.Text.{read_line}
use Rattle.repairing.specs.Repair.{after_line, verdict}
use Rattle.refusal.specs.Numbers.{number_in}
use Rattle.refusal.specs.declared.Refusal.{Refusal}

-- the line at `at` ends before the place r
pub record Past (text : List ℕ) (at r : ℕ) : Type 0 where
  pub rest : drop r text ≡ after_line (drop at text)
  pub inside : r ≤ length text
  pub further : at < r

-- the numbers of the kept spells are marked
pub record Marks (seen : List Bool) (kept : List Spell) : Type 0 where
  pub wide : length seen ≡ 65536
  pub marked : (k : ℕ) → k < 65536 → get_or seen k false ≡ stands kept k

-- the line at `at` is read as s
pub record Reads (text : List ℕ) (at : ℕ) (s : Spell) : Type 0 where
  pub rest : List ℕ
  pub line : read_line (drop at text) ≡ found s rest

-- a line that is kept: it is read as s, and there is room for s after so many; nothing is said of one that is dropped
abbrev pub Keeps : List ℕ → ℕ → ℕ → Result Spell Refusal → Type 0
Keeps text at count (Ok s) = Reads text at s × (count < 1024)
Keeps text at count (Err refusal) = Unit {0}

-- the answer r on the line at `at`: what it meets, after whatever kept spells that are so many and marked so, and its spell where it meets nothing
pub record Judges (text : List ℕ) (at : ℕ) (seen : List Bool) (count : ℕ) (r : Result Spell Refusal) : Type 0 where
  pub met : (kept : List Spell) → Marks seen kept → length kept ≡ count → number_in r ≡ verdict kept (read_line (drop at text))
  pub keeps : Keeps text at count r
