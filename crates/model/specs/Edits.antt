-- The edits of the standing list and what they leave in the past (document 01, "The plain account"). Assumes nothing.
use Rattle.std.specs.Prelude.{ℕ, Bool, false, cond, List, [], ◌∷◌, leb, eqb, length, take}
unfoldable pub use Rattle.orders.specs.Orders.{insert_by}
use Rattle.refusal.specs.Table.{accepted, duplicate_number, unknown_number, full, no_history}
use Rattle.spell.specs.declared.Spell.{Spell}
use Rattle.spell.specs.Entry.{refusal_of}
use Rattle.spell.specs.Order.{earlier_of}
use Rattle.spell.specs.Same.{same_of}
use Rattle.spell.specs.Listing.{stands}

-- ---- The standing list, kept in the order

-- the spell s put in by the order, before the first that is not earlier
abbrev pub insert : Spell → List Spell → List Spell
insert s l = insert_by earlier_of s l

-- the spell of the number k removed
unfoldable pub remove : ℕ → List Spell → List Spell
remove k [] = []
remove k (x ∷ l) = cond (eqb x.number k) l (x ∷ remove k l)

-- the spell of its number replaced by the given one
abbrev pub replace : Spell → List Spell → List Spell
replace s l = insert s (remove s.number l)

-- an amend by s is idle: the standing spell of its number equals s in all fields, reading bits included
unfoldable pub idle : List Spell → Spell → Bool
idle [] s = false
idle (x ∷ l) s = cond (eqb x.number s.number) (same_of x s) (idle l s)

-- ---- The checks, in their order

-- a check's number where it refuses, and else the check after it
abbrev pub or_else : ℕ → ℕ → ℕ
or_else n m = cond (eqb n accepted) m n

-- enter: 1, 2, 3, 4, 5, 6, 8
unfoldable pub enter_refusal : List Spell → Spell → ℕ
enter_refusal l s =
    or_else (refusal_of s) (cond (stands l s.number) duplicate_number (cond (leb 1024 (length l)) full accepted))

-- amend: 1 to 5, then 7
unfoldable pub amend_refusal : List Spell → Spell → ℕ
amend_refusal l s = or_else (refusal_of s) (cond (stands l s.number) accepted unknown_number)

-- strike: 7
unfoldable pub strike_refusal : List Spell → ℕ → ℕ
strike_refusal l k = cond (stands l k) accepted unknown_number

-- take back: 9
unfoldable pub take_back_refusal : List (List Spell) → ℕ
take_back_refusal [] = no_history
take_back_refusal (l ∷ past) = accepted

-- ---- The past: earlier standing lists, newest first

-- the former standing list goes to the front of the past, and a 65th falls off
unfoldable pub remember : List Spell → List (List Spell) → List (List Spell)
remember l past = take 64 (l ∷ past)

-- the front of the past, or the standing list l where there is no past
unfoldable pub front_or : List Spell → List (List Spell) → List Spell
front_or l [] = l
front_or l (p ∷ past) = p

-- the past without its front
unfoldable pub rest_of : List (List Spell) → List (List Spell)
rest_of [] = []
rest_of (p ∷ past) = past
