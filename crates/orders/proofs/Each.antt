-- What holds of each element of a list. Assumes nothing.
use Rattle.basis.proofs.Prelude.{◌≡◌, ap, refl, ◌∙◌, ℕ, zero, suc, ◌<◌, List, [], ◌∷◌, ◌++◌, map, get_or, length, length-map, List·getD-map, drop-cons, arith}
pub use mathlib.Core.List.{map-map, map-id}

-- P holds of each
abbrev pub Each : {A : Type 0} → (A → Type 0) → List A → Type 0
Each P [] = Unit {0}
Each P (x ∷ l) = P x × Each P l

module _ {A : Type 0} (P : A → Type 0) where
  pub each_append : (l m : List A) → Each P l → Each P m → Each P (l ++ m)
  each_append [] m h k = k
  each_append (x ∷ l) m h k = (h.0, each_append l m h.1 k)

  pub each_at : (l : List A) (i : ℕ) (d : A) → Each P l → i < length l → P (get_or l i d)
  each_at [] i d k h = absurd (omega arith)
  each_at (x ∷ l) zero d k h = k.0
  each_at (x ∷ l) (suc i) d k h = each_at l i d k.1 (omega arith)

  pub each_weaken : (Q : A → Type 0) → ((x : A) → P x → Q x) → (l : List A) → Each P l → Each Q l
  each_weaken Q f [] k = tt
  each_weaken Q f (x ∷ l) k = (f x k.0, each_weaken Q f l k.1)

-- two functions that agree on each element
pub map_same : {A B : Type 0} (f g : A → B) (P : A → Type 0) → ((x : A) → P x → f x ≡ g x) → (l : List A) → Each P l → map f l ≡ map g l
map_same f g P agree [] k = refl
map_same f g P agree (x ∷ l) k = ap (λ z. z ∷ map f l) (agree x k.0) ∙ ap (λ r. g x ∷ r) (map_same f g P agree l k.1)

-- a mapped list at a place that it has
pub map_at : {A B : Type 0} (f : A → B) (l : List A) (i : ℕ) (d : A) (e : B) → i < length l → get_or (map f l) i e ≡ f (get_or l i d)
map_at f l i d e h = let k : i < length (map f l) = rw length-map h in cc (drop-cons (map f l) i e k, drop-cons (map f l) i (f d) k, List·getD-map f l i d)
