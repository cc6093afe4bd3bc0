-- A request's line, its LF among its bytes, and what it asks (the protocol of `serve`, its table of requests). Assumes nothing.
use Rattle.std.specs.Prelude.{ℕ, zero, suc, Bool, true, false, cond, List, [], ◌∷◌, leb, length, drop}
use Rattle.fields.specs.Fields.{Found, found, unreadable, read_length, read_number, read_mask}
use Rattle.register.specs.Text.{tab, lf, read_line}
use Rattle.model.specs.declared.Call.{Call}
use Rattle.model.specs.declared.Call.TheVariants.{Ask}
use Rattle.model.specs.declared.Question.TheVariants.{Days, Mask}
use Rattle.requests.specs.declared.Layout.{Layout}
use Rattle.requests.specs.declared.Layout.TheVariants.{Alone, Spell, Number, Pair, Mask as MaskFields, Days as DayFields, Length, Unknown}
use Rattle.requests.specs.declared.LengthWord.{LengthWord}
use Rattle.requests.specs.declared.LengthWord.TheVariants.{Room, Read}
use Rattle.requests.specs.Words.{table, head_of, alone_call, spell_call, number_call, pair_call, limit_of}

-- a call of the account, with the days of a days question; a room; a reading of so many bytes; or nothing that has a form
pub data Demand : Type 0 where
  asks_call : Call → List ℕ → Demand
  asks_room : ℕ → Demand
  asks_read : ℕ → Demand
  malformed : Demand

-- a call with no days
abbrev pub asks : Call → Demand
asks c = asks_call c []

-- what is asked by a value that is read, and by what comes after it; a field that can't be read is of no form
abbrev pub asking : {A : Type 0} → Found A → (A → List ℕ → Demand) → Demand
asking (found a rest) f = f a rest
asking unreadable f = malformed

-- nothing comes after
abbrev pub ended : Demand → List ℕ → Demand
ended a [] = a
ended a (b ∷ rest) = malformed

-- what a decimal asks
abbrev pub length_asks : LengthWord → ℕ → Demand
length_asks Room n = asks_room n
length_asks Read n = asks_read n

-- ---- The days of a days question

-- those that are read, up to the first that can't be, and whether they are the whole line
pub record DayList : Type 0 where
  pub days : List ℕ
  pub whole : Bool

-- a day before others
abbrev pub before : ℕ → DayList → DayList
before d l = record { days = d ∷ l.days; whole = l.whole }

-- the last day, ended by LF, with nothing after it
abbrev pub last_day : Found ℕ → DayList
last_day (found d []) = record { days = d ∷ []; whole = true }
last_day (found d (b ∷ rest)) = record { days = []; whole = false }
last_day unreadable = record { days = []; whole = false }

-- a day that a tab ends, and what comes after it; or the last
abbrev pub next_day : Found ℕ → (List ℕ → DayList) → DayList → DayList
next_day (found d rest) more last = before d (more rest)
next_day unreadable more last = last

-- at most `room` days
unfoldable pub read_days : ℕ → List ℕ → DayList
read_days zero s = record { days = []; whole = false }
read_days (suc room) s = next_day (read_number tab s) (read_days room) (last_day (read_number lf s))

-- what is asked by a list of days
abbrev pub ask_days : DayList → Demand
ask_days l = cond l.whole (asks_call (Ask Days) l.days) malformed

-- ---- What is asked, by the layout of the fields s

-- The six fields of a spell are those of a register line. A list of days has at most `room`.
unfoldable pub asked_by : Layout → ℕ → List ℕ → Demand
asked_by (Alone w) room s = ended (asks (alone_call w)) s
asked_by (Spell w) room s = asking (read_line s) (λ x. ended (asks (spell_call w x)))
asked_by (Number w) room s = asking (read_number lf s) (λ n. ended (asks (number_call w n)))
asked_by Pair room s = asking (read_number tab s) (λ a s1. asking (read_number lf s1) (λ b. ended (asks (pair_call a b))))
asked_by MaskFields room s = asking (read_number tab s) (λ b s1. asking (read_mask lf s1) (λ k. ended (asks (Ask (Mask b k)))))
asked_by DayFields room s = ask_days (read_days room s)
asked_by (Length w) room s = asking (read_length (limit_of w) lf s) (λ n. ended (length_asks w n))
asked_by Unknown room s = malformed

-- the days that are read
unfoldable pub days_by : Layout → ℕ → List ℕ → List ℕ
days_by (Alone w) room s = []
days_by (Spell w) room s = []
days_by (Number w) room s = []
days_by Pair room s = []
days_by MaskFields room s = []
days_by DayFields room s = (read_days room s).days
days_by (Length w) room s = []
days_by Unknown room s = []

-- ---- A line

-- what a line asks; one longer than 65,536 bytes with its LF is malformed
unfoldable pub asked_of : ℕ → List ℕ → Demand
asked_of room s = cond (leb (length s) 65536) (asked_by (head_of table s).layout room (drop (head_of table s).at s)) malformed

-- the days that are read of a line
unfoldable pub days_of : ℕ → List ℕ → List ℕ
days_of room s = cond (leb (length s) 65536) (days_by (head_of table s).layout room (drop (head_of table s).at s)) []

-- how many bytes follow a line that asks this: those of the text of a `read`
unfoldable pub following : Demand → ℕ
following (asks_call c ds) = 0
following (asks_room n) = 0
following (asks_read n) = n
following malformed = 0
