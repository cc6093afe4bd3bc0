-- The lines that the program `stand` prints, and where its buffer holds them (document 01, "The program `stand`"). Assumes
-- nothing.
use Rattle.std.specs.Prelude.{ℕ, zero, suc, ◌+◌, ◌-◌, ◌≤◌, ◌<◌, ◌≡◌, Bool, true, false, Result, Ok, Err, cond, List, [], ◌∷◌, ◌++◌, leb, length, drop}
use Rattle.fields.specs.Fields.{numbers_text}
use Rattle.spell.specs.declared.Spell.{Spell}
use Rattle.register.specs.Text.{good, read_text}
use Rattle.model.specs.Publishing.{published_of}
use Rattle.model.specs.Questions.{on_day, listed, comparisons_of}
use Rattle.published_index.specs.Index.{Shows}
use Rattle.replies.specs.Sending.{Sends}
use Rattle.stand_text.specs.declared.Part.{Part}

-- ---- The lines

-- day, k, looks and the k spell numbers, tab-parted and ended by LF; nothing where k is 0
unfoldable pub line_of : ℕ → List ℕ → ℕ → List ℕ
line_of d [] comparisons = []
line_of d (n ∷ ns) comparisons = numbers_text (d ∷ length (n ∷ ns) ∷ comparisons ∷ n ∷ ns) []

-- the line of day d over a published list
abbrev pub day_line : ℕ → List Spell → List ℕ
day_line d p = line_of d (listed (on_day d) p) (comparisons_of d d p)

-- the lines of k days, from day d on
unfoldable pub lines_of : ℕ → ℕ → List Spell → List ℕ
lines_of zero d p = []
lines_of (suc k) d p = day_line d p ++ lines_of k (suc d) p

-- all that `stand` prints of a published list: the lines of days 1 to 4,000
abbrev pub text_of : List Spell → List ℕ
text_of p = lines_of 4000 1 p

-- ---- The buffer

-- the line of day d over whatever published list the index shows, in the last of 8,192 places: the places before keep what they held
pub record DayEnds (ix : List ℕ) (d : ℕ) (entry : List ℕ) (r : ℕ) (exit : List ℕ) : Type 0 where
  pub inside : r ≤ 8192
  pub line : (p : List Spell) → Shows ix p → Sends (day_line d p) entry r exit

-- ---- The parts of the whole text. A part is whole lines in a list of 65,536 places; a line is put as long as 8,192 are left.

-- how many of k days from day d on a part takes that has n bytes
unfoldable pub taken : ℕ → ℕ → ℕ → List Spell → ℕ
taken zero d n p = 0
taken (suc k) d n p = cond (leb n 57344) (suc (taken k (suc d) (n + length (day_line d p)) p)) 0

-- how many days the part that begins on day d has, its lines, and the day to go on with
abbrev pub part_days : ℕ → List Spell → ℕ
part_days d p = taken (4001 - d) d 0 p

abbrev pub part_of : ℕ → List Spell → List ℕ
part_of d p = lines_of (part_days d p) d p

abbrev pub next_of : ℕ → List Spell → ℕ
next_of d p = d + part_days d p

-- a part stands in the first places, and the places after keep what they held
pub record Stands (p : List Spell) (d : ℕ) (entry : List ℕ) (r : Part) (exit : List ℕ) : Type 0 where
  pub bytes : r.bytes ≡ length (part_of d p)
  pub next : r.next ≡ next_of d p
  pub places : exit ≡ part_of d p ++ drop r.bytes entry

-- the part that begins on day d, over whatever published list the index shows
pub record PartStands (ix : List ℕ) (d : ℕ) (entry : List ℕ) (r : Part) (exit : List ℕ) : Type 0 where
  pub inside : r.bytes ≤ 65536
  pub onward : d ≤ 4000 → d < r.next
  pub within : d ≤ 4001 → r.next ≤ 4001
  pub part : (p : List Spell) → Shows ix p → Stands p d entry r exit

-- ---- What is printed

-- parts, one after another from day 1 on, make a text and have come to day d
pub data Come (p : List Spell) : ℕ → List ℕ → Type 0 where
  none : Come p 1 []
  more : {d : ℕ} {text : List ℕ} → Come p d text → Come p (next_of d p) (text ++ part_of d p)

-- the day d that parts come to, and their text
pub record Reached (p : List Spell) (d : ℕ) : Type 0 where
  pub text : List ℕ
  pub come : Come p d text

-- parts are printed one after another from day 1 on, and the next begins on day `next`: one past the last day where all are printed
pub record Printed (p : List Spell) (next : ℕ) (whole : Bool) : Type 0 where
  pub reached : Reached p next
  pub all : whole ≡ true → next ≡ 4001

-- what the program answers: that all days are printed, or the day on which a part begins that is not
abbrev pub next_in : {A : Type 0} → Result A ℕ → ℕ
next_in (Ok _) = 4001
next_in (Err d) = d

abbrev pub whole_in : {A : Type 0} → Result A ℕ → Bool
whole_in (Ok _) = true
whole_in (Err _) = false

-- of whatever published list the index shows
abbrev pub PrintedOn : List ℕ → ℕ → Bool → Type 0
PrintedOn ix next whole = (p : List Spell) → Shows ix p → Printed p next whole

-- of the spells of a register's text, published by rule 1, where it is not refused
abbrev pub PrintedOf : List ℕ → ℕ → Bool → Type 0
PrintedOf text next whole = (l : List Spell) → read_text text ≡ good l → Printed (published_of 1 l) next whole
