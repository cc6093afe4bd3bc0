-- What a call can do, and the one place that makes of it a state and a whole answer (document 01, "The plain account" and
-- "Refusal table"). Only this page speaks of the lists that a call is lent, of zeros and of refusal 11. Assumes nothing.
use Rattle.std.specs.Prelude.{ℕ, cond, List, leb, length}
use Rattle.buffer.specs.Buffer.{over}
use Rattle.refusal.specs.Table.{accepted, short_buffer}
use Rattle.spell.specs.declared.Spell.{Spell}
use Rattle.model.specs.declared.Call.{Call}

-- ---- The state: the standing list, kept in the order; the past, at most 64 earlier standing lists, newest first; the
-- published list

pub record State : Type 0 where
  pub standing : List Spell
  pub past : List (List Spell)
  pub published : List Spell

-- the standing list becomes l and the past p
abbrev pub with_standing : List Spell → List (List Spell) → State → State
with_standing l p m = record { standing = l; past = p; published = m.published }

-- the published list becomes p
abbrev pub with_published : List Spell → State → State
with_published p m = record { standing = m.standing; past = m.past; published = p }

-- ---- A call with what its lent lists hold beforehand, and its whole answer

-- the days of a days question, the list lent for spell numbers, the list lent for a text
pub record Request : Type 0 where
  pub call : Call
  pub days : List ℕ
  pub numbers : List ℕ
  pub text : List ℕ

-- the refusal's number or 0; k; the looks; the length of a written text; the number of days ticked; every place of the lent lists
pub record Answer : Type 0 where
  pub refusal : ℕ
  pub count : ℕ
  pub comparisons : ℕ
  pub length : ℕ
  pub ticked : ℕ
  pub numbers : List ℕ
  pub text : List ℕ

pub record After : Type 0 where
  pub state : State
  pub answer : Answer

-- ---- What a call can do

pub data Effect : Type 0 where
  -- it is refused with this number
  refused : ℕ → Effect
  -- it is accepted, leaves this state, and answers no more
  done : State → Effect
  -- it gives these spell numbers, with so many looks and so many days ticked
  gives : List ℕ → ℕ → ℕ → Effect
  -- it writes this text
  writes : List ℕ → Effect

-- ---- What comes of it

-- a number and no more: count, looks, length and days ticked are 0, and the lent lists keep every place
abbrev pub refuse : ℕ → State → Request → After
refuse n m q = record {
  state = m;
  answer = record { refusal = n; count = 0; comparisons = 0; length = 0; ticked = 0; numbers = q.numbers; text = q.text };
}

-- spell numbers, their count, the looks and the days ticked
abbrev pub gave : List ℕ → ℕ → ℕ → State → Request → After
gave ns looks ticked m q = record {
  state = m;
  answer = record { refusal = accepted; count = length ns; comparisons = looks; length = 0; ticked = ticked; numbers = over ns q.numbers; text = q.text };
}

-- a text and its length
abbrev pub wrote : List ℕ → State → Request → After
wrote t m q = record {
  state = m;
  answer = record { refusal = accepted; count = 0; comparisons = 0; length = length t; ticked = 0; numbers = q.numbers; text = over t q.text };
}

-- An effect on the state m, of the request q. A refused call changes nothing; numbers or a text that exceed the lent list are
-- refused with 11.
unfoldable pub settle : Effect → State → Request → After
settle (refused n) m q = refuse n m q
settle (done m') m q = refuse accepted m' q
settle (gives ns looks ticked) m q = cond (leb (length ns) (length q.numbers)) (gave ns looks ticked m q) (refuse short_buffer m q)
settle (writes t) m q = cond (leb (length t) (length q.text)) (wrote t m q) (refuse short_buffer m q)
