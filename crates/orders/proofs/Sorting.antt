-- Insertion sort by a test that is a total order. Assumes nothing.
use Rattle.basis.proofs.Prelude.{◌≡◌, refl, sym, ap, ◌∙◌, ℕ, suc, ◌+◌, ◌≤◌, ◌<◌, List, [], ◌∷◌, ◌++◌, append-nil, map, Bool, true, false, not, ◌&&◌, get_or, length, drop, drop_of_length-le, drop-cons, ltb, ltb-true, ltb-false, add-one, arith, both, by_cases, by_test, clash, not-true, untrue}
use Rattle.orders.specs.Orders.{insert_by, sorted_by, is_in_order_by}
use Rattle.orders.proofs.Each.{Each, each_weaken}

module _ {A : Type 0} (t : A → A → Bool) where
  -- ---- One element put in

  pub each_inserted : (P : A → Type 0) (x : A) (l : List A) → P x → Each P l → Each P (insert_by t x l)
  unfolding insert_by
  each_inserted P x [] h k = (h, tt)
  each_inserted P x (y ∷ l) h k = by_cases (Each P) (t y x) (λ _. (k.0, each_inserted P x l h k.1)) (λ _. (h, k))

  pub each_sorted : (P : A → Type 0) (l : List A) → Each P l → Each P (sorted_by t l)
  unfolding sorted_by
  each_sorted P [] k = tt
  each_sorted P (x ∷ l) k = each_inserted P x (sorted_by t l) k.0 (each_sorted P l k.1)

  -- before all of a list: at its front
  pub inserted_first : (x : A) (l : List A) → Each (λ y. t y x ≡ false) l → insert_by t x l ≡ x ∷ l
  unfolding insert_by
  inserted_first x [] k = refl
  inserted_first x (y ∷ l) k = rw k.0

  pub inserted_length : (x : A) (l : List A) → length (insert_by t x l) ≡ suc (length l)
  unfolding insert_by
  inserted_length x [] = refl
  inserted_length x (y ∷ l) = by_test (t y x) (λ e. rw (e, inserted_length x l)) (λ e. rw e)

  pub sorted_length : (l : List A) → length (sorted_by t l) ≡ length l
  unfolding sorted_by
  sorted_length [] = refl
  sorted_length (x ∷ l) = inserted_length x (sorted_by t l) ∙ ap suc (sorted_length l)

  -- ---- A list in order

  first_two : (x y : A) (l : List A) → is_in_order_by t (x ∷ y ∷ l) ≡ true → (t y x ≡ false) × (is_in_order_by t (y ∷ l) ≡ true)
  first_two x y l h = unfold is_in_order_by in let p = both (not (t y x)) (is_in_order_by t (y ∷ l)) h in (not-true (t y x) p.0, p.1)

  pub in_order_tail : (x : A) (l : List A) → is_in_order_by t (x ∷ l) ≡ true → is_in_order_by t l ≡ true
  unfolding is_in_order_by
  in_order_tail x [] h = refl
  in_order_tail x (y ∷ l) h = (first_two x y l h).1

  -- is its own sorted form
  pub in_order_sorted : (l : List A) → is_in_order_by t l ≡ true → sorted_by t l ≡ l
  unfolding sorted_by is_in_order_by insert_by
  in_order_sorted [] h = refl
  in_order_sorted (x ∷ []) h = refl
  in_order_sorted (x ∷ y ∷ l) h = let p = first_two x y l h in ap (insert_by t x) (in_order_sorted (y ∷ l) p.1) ∙ rw p.0

  -- a pass over the list, at the place i: the two there are in order, or not, or there are no two
  module _ (d : A) where
    pub pass : (l : List A) (i : ℕ) → i + 1 < length l → is_in_order_by t (drop i l) ≡ not (t (get_or l (i + 1) d) (get_or l i d)) && is_in_order_by t (drop (i + 1) l)
    pass l i h = unfold is_in_order_by in rw (drop-cons l i d (omega arith), ← add-one i, drop-cons l (i + 1) d h)

    pub pass_end : (l : List A) (i : ℕ) → length l ≤ i + 1 → is_in_order_by t (drop i l) ≡ true
    pass_end l i h = unfold is_in_order_by in by_test (ltb i (length l))
        (λ e. rw (drop-cons l i d (ltb-true i (length l) e), drop_of_length-le l {i = suc i} (omega arith)))
        (λ e. rw (drop_of_length-le l {i = i} (ltb-false i (length l) e)))

-- ---- A sort and a map

inserted_map : {A B : Type 0} (t : B → B → Bool) (f : A → B) (x : A) (l : List A) → insert_by t (f x) (map f l) ≡ map f (insert_by (λ p q. t (f p) (f q)) x l)
unfolding insert_by
inserted_map t f x [] = refl
inserted_map t f x (y ∷ l) = by_test (t (f y) (f x)) (λ e. rw e (ap (λ r. f y ∷ r) (inserted_map t f x l))) (λ e. rw e)

pub sorted_map : {A B : Type 0} (t : B → B → Bool) (f : A → B) (l : List A) → sorted_by t (map f l) ≡ map f (sorted_by (λ p q. t (f p) (f q)) l)
unfolding sorted_by
sorted_map t f [] = refl
sorted_map t f (x ∷ l) = ap (insert_by t (f x)) (sorted_map t f l) ∙ inserted_map t f x (sorted_by (λ p q. t (f p) (f q)) l)

-- ---- Two tests that agree on a list

module _ {A : Type 0} (t u : A → A → Bool) (P : A → Type 0) (agree : (p q : A) → P p → P q → t p q ≡ u p q) where
  inserted_same : (x : A) (l : List A) → P x → Each P l → insert_by t x l ≡ insert_by u x l
  unfolding insert_by
  inserted_same x [] h k = refl
  inserted_same x (y ∷ l) h k = rw (agree y x k.0 h, inserted_same x l h k.1)

  pub sorted_same : (l : List A) → Each P l → sorted_by t l ≡ sorted_by u l
  unfolding sorted_by
  sorted_same [] k = refl
  sorted_same (x ∷ l) k = ap (insert_by t x) (sorted_same l k.1) ∙ inserted_same x (sorted_by u l) k.0 (each_sorted u P l k.1)

-- ---- A total order: one of any two comes before the other, or they are one

pub record Total {A : Type 0} (t : A → A → Bool) : Type 0 where
  pub asym : (x y : A) → t x y ≡ true → t y x ≡ false
  pub trans : (x y z : A) → t y x ≡ false → t z y ≡ false → t z x ≡ false
  pub one : (x y : A) → t x y ≡ false → t y x ≡ false → x ≡ y

module _ {A : Type 0} {t : A → A → Bool} (o : Total t) where
  pub irrefl : (x : A) → t x x ≡ false
  irrefl x = untrue (t x x) (λ e. clash e (o.asym x x e))

  pub later : (x y z : A) → t x y ≡ true → t y z ≡ true → t x z ≡ true
  later x y z h k = by_test (t x z) (λ e. e) (λ e. absurd (clash k (o.trans z x y e (o.asym x y h))))

  pub each_after : (x y : A) (l : List A) → t y x ≡ false → Each (λ z. t z y ≡ false) l → Each (λ z. t z x ≡ false) l
  each_after x y l h = each_weaken (λ z. t z y ≡ false) (λ z. t z x ≡ false) (λ z. o.trans x y z h) l

  pub in_order_first : (x : A) (l : List A) → is_in_order_by t (x ∷ l) ≡ true → Each (λ z. t z x ≡ false) l
  in_order_first x [] h = tt
  in_order_first x (y ∷ l) h = let p = first_two t x y l h in (p.0, each_after x y l p.0 (in_order_first y l p.1))

  pub in_order_cons : (x : A) (l : List A) → Each (λ z. t z x ≡ false) l → is_in_order_by t l ≡ true → is_in_order_by t (x ∷ l) ≡ true
  unfolding is_in_order_by
  in_order_cons x [] k h = refl
  in_order_cons x (y ∷ l) k h = ap (λ (b : Bool). not b && is_in_order_by t (y ∷ l)) k.0 ∙ h

  inserted_in_order : (x : A) (l : List A) → is_in_order_by t l ≡ true → is_in_order_by t (insert_by t x l) ≡ true
  unfolding insert_by is_in_order_by
  inserted_in_order x [] h = refl
  inserted_in_order x (y ∷ l) h =
      let first = in_order_first y l h in let rest = inserted_in_order x l (in_order_tail t y l h) in
      by_cases (λ (r : List A). is_in_order_by t r ≡ true) (t y x)
      (λ e. in_order_cons y (insert_by t x l) (each_inserted t (λ z. t z y ≡ false) x l (o.asym y x e) first) rest)
      (λ e. in_order_cons x (y ∷ l) (e, each_after x y l e first) h)

  -- what sorting gives is in order
  pub sorted_in_order : (l : List A) → is_in_order_by t (sorted_by t l) ≡ true
  unfolding sorted_by is_in_order_by
  sorted_in_order [] = refl
  sorted_in_order (x ∷ l) = inserted_in_order x (sorted_by t l) (sorted_in_order l)

  -- ---- The order in which elements are put in does not matter

  two : (x y : A) (l : List A) → insert_by t x l ≡ x ∷ l → insert_by t y l ≡ y ∷ l → insert_by t x (y ∷ l) ≡ insert_by t y (x ∷ l)
  two x y l ex ey = unfold insert_by in by_test (t y x) (λ e. rw (e, o.asym y x e, ex))
      (λ e. by_test (t x y) (λ d. rw (e, d, ey)) (λ d. rw (e, d, o.one x y d e)))

  -- z comes before y and not before x: so x before y
  between : (x y z : A) (l : List A) → t z x ≡ false → t z y ≡ true → insert_by t x (insert_by t y (z ∷ l)) ≡ insert_by t y (insert_by t x (z ∷ l))
  between x y z l a b = unfold insert_by in
      let c : t x y ≡ true = by_test (t x y) (λ e. e) (λ e. absurd (clash b (o.trans y x z e a))) in
      simp (a, b, c)

  pub swap : (x y : A) (l : List A) → insert_by t x (insert_by t y l) ≡ insert_by t y (insert_by t x l)
  unfolding insert_by
  swap x y [] = two x y [] refl refl
  swap x y (z ∷ l) = by_test (t z x)
      (λ a. by_test (t z y) (λ b. simp (a, b) (ap (λ (r : List A). z ∷ r) (swap x y l))) (λ b. sym (between y x z l b a)))
      (λ a. by_test (t z y) (λ b. between x y z l a b) (λ b. simp (a, b) (simp (a, b) at (two x y (z ∷ l) (rw a) (rw b)))))

  -- sorted what another test sorted: as if the other had not been
  inserted_inside : (u : A → A → Bool) (x : A) (l r : List A) → sorted_by t (insert_by u x l ++ r) ≡ insert_by t x (sorted_by t (l ++ r))
  unfolding insert_by sorted_by
  inserted_inside u x [] r = refl
  inserted_inside u x (y ∷ l) r =
      by_test (u y x) (λ e. rw e (ap (insert_by t y) (inserted_inside u x l r) ∙ swap y x (sorted_by t (l ++ r)))) (λ e. rw e)

  pub sorted_front : (u : A → A → Bool) (l r : List A) → sorted_by t (sorted_by u l ++ r) ≡ sorted_by t (l ++ r)
  unfolding sorted_by
  sorted_front u [] r = refl
  sorted_front u (x ∷ l) r = inserted_inside u x (sorted_by u l) r ∙ ap (insert_by t x) (sorted_front u l r)

  pub sorted_again : (u : A → A → Bool) (l : List A) → sorted_by t (sorted_by u l) ≡ sorted_by t l
  sorted_again u l = ap (sorted_by t) (sym (append-nil (sorted_by u l))) ∙ sorted_front u l [] ∙ ap (sorted_by t) (append-nil l)

  pub sorted_back : (u : A → A → Bool) (l r : List A) → sorted_by t (l ++ sorted_by u r) ≡ sorted_by t (l ++ r)
  unfolding sorted_by
  sorted_back u [] r = sorted_again u r
  sorted_back u (x ∷ l) r = ap (insert_by t x) (sorted_back u l r)

  -- an element from inside the list, put in last
  pub sorted_inside : (x : A) (l r : List A) → sorted_by t (l ++ x ∷ r) ≡ insert_by t x (sorted_by t (l ++ r))
  unfolding sorted_by
  sorted_inside x [] r = refl
  sorted_inside x (y ∷ l) r = ap (insert_by t y) (sorted_inside x l r) ∙ swap y x (sorted_by t (l ++ r))
