-- Lists of spells that can stand. Assumes nothing.
use Rattle.std.specs.Prelude.{ℕ, ◌≤◌, ◌≡◌, Bool, true, false, not, ◌&&◌, ◌||◌, List, [], ◌∷◌, T, eqb, length}
use Rattle.std.specs.Float.{binary32}
use Rattle.std.specs.Float.Ieee.{fits}
use Rattle.refusal.specs.Table.{accepted}
use Rattle.spell.specs.declared.Urgency.{Urgency}
use Rattle.spell.specs.declared.Urgency.TheVariants.{Grade, Reading}
use Rattle.spell.specs.declared.Spell.{Spell}
use Rattle.spell.specs.Entry.{refusal_of}
use Rattle.spell.specs.Order.{earlier_of, ordered_by}

-- the spell number k stands in the list
unfoldable pub stands : List Spell → ℕ → Bool
stands [] k = false
stands (x ∷ l) k = eqb x.number k || stands l k

-- spell numbers are unique
unfoldable pub distinct : List Spell → Bool
distinct [] = true
distinct (x ∷ l) = not (stands l x.number) && distinct l

-- P holds of each spell
unfoldable pub Each : (Spell → Type 0) → List Spell → Type 0
Each P [] = Unit {0}
Each P (x ∷ l) = P x × Each P l

-- a reading is a 32-bit float
abbrev pub HeldUrgency : Urgency → Type 0
HeldUrgency (Grade g) = Unit {0}
HeldUrgency (Reading x) = T (fits binary32 x)

-- a spell that passes the checks 1 to 5, its numbers in 16 bits
pub record Sound (s : Spell) : Type 0 where
  pub numbered : s.number ≤ 65535
  pub named : s.candidate ≤ 65535
  pub held : HeldUrgency s.urgency
  pub entered : refusal_of s ≡ accepted

-- a list kept in an order, its numbers unique, at most 1,024, and P true of each spell
pub record OrderlyBy (t : Spell → Spell → Bool) (P : Spell → Type 0) (l : List Spell) : Type 0 where
  pub each : Each P l
  pub in_order : ordered_by t l ≡ true
  pub unique : distinct l ≡ true
  pub few : length l ≤ 1024

abbrev pub Orderly : (Spell → Type 0) → List Spell → Type 0
Orderly P l = OrderlyBy earlier_of P l

-- a list that can stand: sound spells, in the order
abbrev pub Good : List Spell → Type 0
Good l = Orderly Sound l
