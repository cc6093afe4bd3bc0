-- The published list: in the order of the answers, each number once, each spell with the days of the rule. Assumes nothing.
use Rattle.basis.proofs.Prelude.{◌∙◌, ◌≡◌, ap, refl, ℕ, List, List-as-Memᴰ, [], ◌∷◌, map, length, length-map, arith}
use Rattle.model.proofs.Names.{sorted_by, sorted_length, cut, last_of, Spell, listed_before, stands, distinct, Each, Orderly, OrderlyBy, answer_order, published_of}
use mathlib.Core.List.Memᴰ
use Rattle.orders.proofs.{Each.map-id, Members.sorted_has}
use Rattle.spell.proofs.Sorted.{sorted_orderly}

-- ---- The rule's days

-- P holds of a spell that is published where it holds of the spell as entered
abbrev pub Cuts : (Spell → Type 0) → Type 0
Cuts P = (rule : ℕ) (s : Spell) → P s → P (cut rule s)

module _ (rule : ℕ) where
  pub each_cut : {P : Spell → Type 0} → Cuts P → (l : List Spell) → Each P l → Each P (map (cut rule) l)
  unfolding Each
  each_cut c [] e = tt
  each_cut c (x ∷ l) e = (c rule x e.0, each_cut c l e.1)

  -- the numbers are as entered
  stands_cut : (l : List Spell) (k : ℕ) → stands (map (cut rule) l) k ≡ stands l k
  unfolding stands
  stands_cut [] k = refl
  stands_cut (x ∷ l) k = rw (stands_cut l k)

  pub distinct_cut : (l : List Spell) → distinct (map (cut rule) l) ≡ distinct l
  unfolding distinct
  distinct_cut [] = refl
  distinct_cut (x ∷ l) = rw (stands_cut l x.number, distinct_cut l)

  pub published_length : (l : List Spell) → length (published_of rule l) ≡ length l
  published_length l = unfold published_of in sorted_length listed_before (map (cut rule) l) ∙ length-map l (cut rule)

  -- THE PUBLISHED LIST is in the order of the answers, each number once
  pub published_orderly : (P : Spell → Type 0) → Cuts P → (l : List Spell) → Orderly P l → OrderlyBy listed_before P (published_of rule l)
  published_orderly P c l g = unfold published_of in
      sorted_orderly answer_order P (map (cut rule) l) (each_cut c l g.each) (distinct_cut l ∙ g.unique) (omega (arith, length-map l (cut rule), g.few))

-- RULE 1 publishes the spells as entered, in the order of the answers
pub published_entered : (l : List Spell) → published_of 1 l ≡ sorted_by listed_before l
published_entered l = unfold published_of last_of in ap (sorted_by listed_before) (map-id l)

-- ---- Which spells are published

-- EACH SPELL that stands is published with the days that the rule gives it
pub published_all : (rule : ℕ) (l : List Spell) (s : Spell) → List-as-Memᴰ s l → List-as-Memᴰ (cut rule s) (published_of rule l)
published_all rule l s i = unfold published_of in (sorted_has listed_before (map (cut rule) l) (cut rule s)).1 (Memᴰ.map (cut rule) i)

-- and what is published is no other: what holds of each spell with its rule's days holds of each that is published
pub published_only : (rule : ℕ) (P : Spell → Type 0) (l : List Spell) → ((s : Spell) → List-as-Memᴰ s l → P (cut rule s))
    → (x : Spell) → List-as-Memᴰ x (published_of rule l) → P x
published_only rule P l h x i = unfold published_of in
    let s = Memᴰ.of_map (cut rule) l ((sorted_has listed_before (map (cut rule) l) x).0 i) in
    rw s.2 at (h s.0 s.1)
