-- The states that a list of calls leads to, and what is true of their lists. Assumes nothing.
use Rattle.std.specs.Prelude.{ℕ, ◌≤◌, ◌≡◌, ◌⊎◌, true, length}
use mathlib.Core.List.{List, [], ◌∷◌, Memᴰ}
use Rattle.refusal.specs.Table.{accepted}
use Rattle.spell.specs.declared.Spell.{Spell}
use Rattle.spell.specs.Entry.{refusal_of}
use Rattle.spell.specs.Order.{listed_before}
use Rattle.spell.specs.Listing.{Orderly, OrderlyBy}
use Rattle.register.specs.Text.{read_text}
use Rattle.model.specs.declared.Call.{Call}
use Rattle.model.specs.declared.Call.TheVariants.{Enter, Amend}
use Rattle.model.specs.Model.{State, fresh, begun, Request, step}

-- ---- The states

-- a list of calls begins fresh or on a register just read, a refused reading included
pub data Begun : State → Type 0 where
  afresh : Begun fresh
  reading : (text : List ℕ) → Begun (begun (read_text text))

-- the state that a list of calls leaves
unfoldable pub after : State → List Request → State
after m [] = m
after m (q ∷ qs) = after (step m q).state qs

-- ---- Their lists

-- such lists are the standing list, each of at most 64 lists of the past, and, in the order of the answers, the published list
pub record Kept (P : Spell → Type 0) (m : State) : Type 0 where
  pub standing : Orderly P m.standing
  pub past : (l : List Spell) → Memᴰ l m.past → Orderly P l
  pub depth : length m.past ≤ 64
  pub published : OrderlyBy listed_before P m.published

-- a spell that passes the checks 1 to 5
abbrev pub Passes : Spell → Type 0
Passes s = refusal_of s ≡ accepted

-- P is true of the spell that an enter or an amend brings, where it passes
abbrev pub Brings : (Spell → Type 0) → Call → Type 0
Brings P c = (s : Spell) → (c ≡ Enter s) ⊎ (c ≡ Amend s) → Passes s → P s
