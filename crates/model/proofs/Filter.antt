-- The spells of a list that pass a test: exactly those, in the order, each number once. Assumes nothing.
use Rattle.basis.proofs.Prelude.{◌∙◌, ◌≡◌, ap, refl, ◌≤◌, List, List-as-Memᴰ, List·Memᴰ·cases-cons, List·Memᴰ·head, List·Memᴰ·not-nil, List·Memᴰ·tail, [], ◌∷◌, Bool, true, ⊎_elim, length, length-map, arith, by_cases, by_test}
use Rattle.model.proofs.Names.{Spell, ordered_by, stands, distinct, Each, OrderlyBy, StrictOrder, alone, none_stands, stands_none, ordered_tail, ordered_first, ordered_cons, filter, listed}

module _ (t : Spell → Bool) where
  -- ---- In the filtered list are the spells of the list that pass

  pub filter_in : (l : List Spell) (x : Spell) → List-as-Memᴰ x (filter t l) → List-as-Memᴰ x l × (t x ≡ true)
  unfolding filter
  filter_in [] x i = absurd (List·Memᴰ·not-nil i)
  filter_in (y ∷ l) x i =
      let later : List-as-Memᴰ x (filter t l) → List-as-Memᴰ x (y ∷ l) × (t x ≡ true) =
      λ j. (List·Memᴰ·tail (filter_in l x j).0, (filter_in l x j).1) in
      by_cases (λ (r : List Spell). List-as-Memᴰ x r → List-as-Memᴰ x (y ∷ l) × (t x ≡ true)) (t y)
      (λ e i. ⊎_elim (λ s. (List·Memᴰ·head s, ap t s ∙ e)) later (List·Memᴰ·cases-cons i)) (λ _. later) i

  pub in_filter : (x : Spell) (l : List Spell) → List-as-Memᴰ x l → t x ≡ true → List-as-Memᴰ x (filter t l)
  unfolding filter
  in_filter x l (List·Memᴰ·head {x = y} {xs = m} s) e = rw (rw s at e) (List·Memᴰ·head s)
  in_filter x l (List·Memᴰ·tail {x = y} {xs = m} j) e =
      let k = in_filter x m j e in by_test (t y) (λ f. rw f (List·Memᴰ·tail k)) (λ f. rw f k)

  -- ---- They are no more than the list has

  filter_few : (l : List Spell) → length (filter t l) ≤ length l
  unfolding filter
  filter_few [] = omega arith
  filter_few (y ∷ l) = let h = filter_few l in by_test (t y) (λ e. rw e (omega arith)) (λ e. rw e (omega arith))

  pub listed_few : (l : List Spell) → length (listed t l) ≤ length l
  listed_few l = omega (arith, filter_few l, length-map (filter t l) (λ (s : Spell). s.number))

  -- ---- What holds of each spell of a list holds of each that passes

  filter_each : (P : Spell → Type 0) (l : List Spell) → Each P l → Each P (filter t l)
  unfolding filter Each
  filter_each P [] h = tt
  filter_each P (y ∷ l) h = let k = filter_each P l h.1 in by_cases (Each P) (t y) (λ _. (h.0, k)) (λ _. k)

  -- ---- A list in the order stays in the order

  pub filter_ordered : {u : Spell → Spell → Bool} (o : StrictOrder u) (l : List Spell) → ordered_by u l ≡ true → ordered_by u (filter t l) ≡ true
  unfolding filter
  filter_ordered o [] h = h
  filter_ordered {u} o (y ∷ l) h =
      let k = filter_ordered o l (ordered_tail o y l h) in
      let first = filter_each (λ z. u y z ≡ true) l (ordered_first o y l h) in
      by_test (t y) (λ e. rw e (ordered_cons o y (filter t l) first k)) (λ e. rw e k)

  -- ---- Unique numbers stay unique

  pub filter_distinct : (l : List Spell) → distinct l ≡ true → distinct (filter t l) ≡ true
  unfolding filter distinct
  filter_distinct [] h = refl
  filter_distinct (y ∷ l) h =
      let p = alone y l h in
      let on = filter_distinct l p.1 in
      let gone = none_stands (filter t l) y.number (λ x i. stands_none l _ p.0 x (filter_in l x i).0) in
      by_cases (λ r. distinct r ≡ true) (t y) (λ _. rw gone on) (λ _. on)

  -- ---- So a list that can stand can stand without the others

  pub filter_orderly : {u : Spell → Spell → Bool} (o : StrictOrder u) (P : Spell → Type 0) (l : List Spell)
      → OrderlyBy u P l → OrderlyBy u P (filter t l)
  filter_orderly o P l g = let n = filter_few l in search (filter_each, filter_ordered, filter_distinct, arith)
