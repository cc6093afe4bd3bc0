-- What going through the lines of a damaged text answers, and what it leaves in the list that it is lent. Assumes nothing.
use Rattle.std.specs.Prelude.{ℕ, ◌≡◌, cond, List, [], leb, length, replicate}
use Rattle.buffer.specs.Buffer.{over}
use Rattle.spell.specs.Blank.{blank}
use Rattle.repairing.specs.Repair.{lines_of, verdicts_after, kept_of}
use Rattle.register_sift.specs.declared.Sifted.{Sifted}

-- a text of at most 65,536 bytes; a longer one counts as empty
unfoldable pub within_limit : List ℕ → List ℕ
within_limit t = cond (leb (length t) 65536) t []

-- the kept spells, as they stood, in the first of 1,024 places; how many they are, and how many lines there are
abbrev pub sifted_of : List ℕ → Sifted
sifted_of t = record { spells = over (kept_of t) (replicate 1024 blank); count = length (kept_of t); lines = length (lines_of t) }

-- the answer r, and what the list holds after: what each line met in its first places, and later places as they were
pub record Sifts (t met : List ℕ) (r : Sifted) (met' : List ℕ) : Type 0 where
  pub answer : r ≡ sifted_of t
  pub said : met' ≡ over (verdicts_after [] (lines_of t)) met
