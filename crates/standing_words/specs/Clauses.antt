-- What the private functions give. Assumes nothing.
use Rattle.std.specs.Prelude.{ℕ, ◌*◌, ◌≡◌, Bool, cond, List, length, take, Result}
use Rattle.refusal.specs.declared.Refusal.{Refusal}
use Rattle.refusal.specs.Numbers.{number_in}
use Rattle.buffer.specs.Buffer.{over}
use Rattle.spell.specs.declared.Spell.{Spell}
use Rattle.packing.specs.Layout.{spell_width, entry_width, standing_length}
use Rattle.packing.specs.Blocks.{written, parts}
use Rattle.packing.specs.Words.{spell_words, spell_of}
use Rattle.spell_places.specs.List.{without, putting, changing}
use Rattle.model.specs.declared.Call.{Call}
use Rattle.plans.specs.declared.Plan.{Plan}
use Rattle.plans.specs.Plans.{Decides, Takes}
use Rattle.standing.specs.Standing.{Wf}
use Rattle.standing.specs.Plans.{plan_for}
use Rattle.standing.specs.Packed.{unpacked}
use Rattle.journal.specs.declared.Undo.{Undo}
use Rattle.journal.specs.Journal.{noting}
use Rattle.journal.specs.Words.{entry_words, entry_of}

-- the words x hold the n values a, as g reads k words each; and, where L holds, they are as f writes them
pub record Holds {A : Type 0} (k : ℕ) (f : A → List ℕ) (g : List ℕ → A) (L : Type 0) (n : ℕ) (x : List ℕ) (a : List A) : Type 0 where
  pub long : length x ≡ n * k
  pub read : parts k g n x ≡ a
  pub laid : L → written f a ≡ x

-- ---- The array

abbrev pub spells_of : List ℕ → List Spell
spells_of x = parts spell_width spell_of 1024 x

-- the words x became x', which hold the spells a
abbrev pub Spells : List ℕ → List ℕ → List Spell → Type 0
Spells x x' a = Holds spell_width spell_words spell_of (written spell_words (spells_of x) ≡ x) 1024 x' a

abbrev pub TakesOut : ℕ → ℕ → List ℕ → List ℕ → Type 0
TakesOut n p x x' = Spells x x' (over (without p (take n (spells_of x))) (spells_of x))

abbrev pub PutsIn : ℕ → Bool → Spell → List ℕ → List ℕ → Type 0
PutsIn m puts s x x' = Spells x x' (over (putting puts s (take m (spells_of x))) (spells_of x))

abbrev pub Exchanges : ℕ → ℕ → Bool → Spell → List ℕ → List ℕ → Type 0
Exchanges n p puts s x x' = Spells x x' (changing p puts s n (spells_of x))

-- ---- The journal

abbrev pub entries_of : List ℕ → List Undo
entries_of y = parts entry_width entry_of 64 y

abbrev pub Notes : ℕ → Bool → Undo → List ℕ → List ℕ → Type 0
Notes d notes e y y' = Holds entry_width entry_words entry_of (written entry_words (entries_of y) ≡ y) 64 y' (cond notes (noting e d (entries_of y)) (entries_of y))

-- ---- The plan

-- the answer r to the call c, on words that the calls gave
pub record Planned (x : List ℕ) (c : Call) (r : Result Plan Refusal) : Type 0 where
  pub whole : length x ≡ standing_length
  pub wf : Wf (unpacked x)
  pub is : let st = unpacked x in Decides st.depth (plan_for st c) r
  pub takes : Takes c (number_in r)
