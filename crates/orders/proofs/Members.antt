-- Which elements are in a list after an insertion, and in a sorted list. Assumes nothing.
use Rattle.basis.proofs.Prelude.{◌≡◌, List, List-as-Memᴰ, List·Memᴰ·cases-cons, List·Memᴰ·head, List·Memᴰ·tail, [], ◌∷◌, Bool, ◌↔◌, ◌⊎◌, inl, inr, ⊎_elim, by_cases}
use mathlib.Core.Logic.{⊎_map}
use Rattle.orders.specs.Orders.{insert_by, sorted_by}

module _ {A : Type 0} (t : A → A → Bool) where
  pub in_insert : (s : A) (l : List A) (x : A) → List-as-Memᴰ x (insert_by t s l) ↔ ((x ≡ s) ⊎ List-as-Memᴰ x l)
  unfolding insert_by
  in_insert s [] x = (List·Memᴰ·cases-cons, ⊎_elim List·Memᴰ·head List·Memᴰ·tail)
  in_insert s (y ∷ l) x = let h = in_insert s l x in by_cases (λ (r : List A). List-as-Memᴰ x r ↔ ((x ≡ s) ⊎ List-as-Memᴰ x (y ∷ l))) (t y s)
      (λ _. (
        λ i. ⊎_elim (λ e. inr (List·Memᴰ·head e)) (λ j. ⊎_map (λ e. e) List·Memᴰ·tail (h.0 j)) (List·Memᴰ·cases-cons i),
        ⊎_elim (λ e. List·Memᴰ·tail (h.1 (inl e))) (λ i. ⊎_elim List·Memᴰ·head (λ j. List·Memᴰ·tail (h.1 (inr j))) (List·Memᴰ·cases-cons i)),
      ))
      (λ _. (List·Memᴰ·cases-cons, ⊎_elim List·Memᴰ·head List·Memᴰ·tail))

  -- a sorted list has the same elements
  pub sorted_has : (l : List A) (x : A) → List-as-Memᴰ x (sorted_by t l) ↔ List-as-Memᴰ x l
  unfolding sorted_by
  sorted_has [] x = (λ i. i, λ i. i)
  sorted_has (y ∷ l) x =
      let h = sorted_has l x in
      let p = in_insert y (sorted_by t l) x in
      (λ i. ⊎_elim List·Memᴰ·head (λ j. List·Memᴰ·tail (h.0 j)) (p.0 i), λ i. p.1 (⊎_map (λ e. e) h.1 (List·Memᴰ·cases-cons i)))
