-- What is decided of a call, by its checks and what is found under its number: which spell goes, which is put in, what is noted. Assumes nothing.
use Rattle.std.specs.Prelude.{ℕ, ◌+◌, ◌-◌, ◌≡◌, Bool, true, false, cond, eqb, leb, ltb, Some, None, Result, Ok, Err}
use Rattle.refusal.specs.declared.Refusal.{Refusal}
use Rattle.refusal.specs.Numbers.{number_of as refusal_number}
use Rattle.refusal.specs.Table.{accepted, duplicate_number, unknown_number, full, no_history}
use Rattle.spell.specs.declared.Spell.{Spell}
use Rattle.spell.specs.Blank.{blank}
use Rattle.spell.specs.Entry.{refusal_of}
use Rattle.spell.specs.Listing.{Sound}
use Rattle.spell.specs.Same.{same_of}
use Rattle.model.specs.declared.Call.{Call}
use Rattle.model.specs.declared.Call.TheVariants.{Enter, Amend, Strike, TakeBack, Publish, Write, Ask}
use Rattle.model.specs.Edits.{or_else}
use Rattle.journal.specs.declared.Undo.{Undo}
use Rattle.journal.specs.Journal.{blank_entry}
use Rattle.plans.specs.declared.Plan.{Plan}

-- the refusal's number, or 0; the place of the spell that goes, where one stands there; whether a spell is put in, and which; whether an entry
-- is noted, and which, in a journal of that depth
pub record Decision : Type 0 where
  pub refusal : ℕ
  pub out : ℕ
  pub puts : Bool
  pub spell : Spell
  pub notes : Bool
  pub entry : Undo
  pub depth : ℕ

-- nothing changes
abbrev pub no_plan : ℕ → ℕ → Decision
no_plan d z = record { refusal = z; out = 1024; puts = false; spell = blank; notes = false; entry = blank_entry; depth = d }

-- ---- Each edit, where n spells stand, and the number that it is about stands at p, or p is n

abbrev pub enter_check : Spell → ℕ → ℕ → ℕ
enter_check s p n = or_else (refusal_of s) (or_else (cond (ltb p n) duplicate_number accepted) (cond (leb 1024 n) full accepted))

abbrev pub plan_enter : Spell → ℕ → ℕ → ℕ → Decision
plan_enter s p n d = cond (eqb (enter_check s p n) accepted)
    (record { refusal = accepted; out = 1024; puts = true; spell = s; notes = true; entry = record { number = s.number; stood = false; spell = s }; depth = d })
    (no_plan d (enter_check s p n))

abbrev pub amend_check : Spell → ℕ → ℕ → ℕ
amend_check s p n = or_else (refusal_of s) (cond (leb n p) unknown_number accepted)

abbrev pub plan_amend : Spell → ℕ → Spell → ℕ → ℕ → Decision
plan_amend s p old n d = cond (eqb (amend_check s p n) accepted)
    (cond (same_of old s) (no_plan d accepted)
    (record { refusal = accepted; out = p; puts = true; spell = s; notes = true; entry = record { number = s.number; stood = true; spell = old }; depth = d }))
    (no_plan d (amend_check s p n))

abbrev pub plan_strike : ℕ → ℕ → Spell → ℕ → ℕ → Decision
plan_strike k p old n d = cond (leb n p) (no_plan d unknown_number)
    (record { refusal = accepted; out = p; puts = false; spell = blank; notes = true; entry = record { number = k; stood = true; spell = old }; depth = d })

abbrev pub plan_back : Undo → ℕ → ℕ → Decision
plan_back e p d = cond (eqb d 0) (no_plan d no_history)
    (record { refusal = accepted; out = p; puts = e.stood; spell = e.spell; notes = false; entry = e; depth = d - 1 })

-- ---- Any call

unfoldable pub plan_of : Call → Undo → ℕ → Spell → ℕ → ℕ → Decision
plan_of (Enter s) e p old n d = plan_enter s p n d
plan_of (Amend s) e p old n d = plan_amend s p old n d
plan_of (Strike k) e p old n d = plan_strike k p old n d
plan_of TakeBack e p old n d = plan_back e p d
plan_of (Publish rule) e p old n d = no_plan d accepted
plan_of Write e p old n d = no_plan d accepted
plan_of (Ask w) e p old n d = no_plan d accepted

-- a spell that is taken can stand
unfoldable pub Takes : Call → ℕ → Type 0
Takes (Enter s) z = z ≡ accepted → Sound s
Takes (Amend s) z = z ≡ accepted → Sound s
Takes (Strike k) z = Unit {0}
Takes TakeBack z = Unit {0}
Takes (Publish rule) z = Unit {0}
Takes Write z = Unit {0}
Takes (Ask w) z = Unit {0}

-- the number that a call is about
unfoldable pub number_of : Call → ℕ → ℕ
number_of (Enter s) k = s.number
number_of (Amend s) k = s.number
number_of (Strike k) newest = k
number_of TakeBack k = k
number_of (Publish rule) k = 0
number_of Write k = 0
number_of (Ask w) k = 0

-- ---- The journal

-- the depth with one more entry
abbrev pub deeper_by : ℕ → Bool → ℕ
deeper_by d notes = cond notes (cond (leb 64 d) d (d + 1)) d

-- ---- As the code answers

-- what is changed by what is decided
abbrev pub plan_by : Decision → Plan
plan_by x = record { out = x.out; put = cond x.puts (Some x.spell) None; note = cond x.notes (Some x.entry) None; depth = x.depth }

-- the answer r is what is decided, in a journal of the depth d: by a refusal nothing changes
abbrev pub Decides : ℕ → Decision → Result Plan Refusal → Type 0
Decides d x (Ok p) = (x.refusal ≡ accepted) × (p ≡ plan_by x)
Decides d x (Err z) = x ≡ no_plan d (refusal_number z)
