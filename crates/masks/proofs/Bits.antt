-- The bits of a mask that are set: the next, the highest, how many, and which days they are. Assumes nothing.
use Rattle.basis.proofs.Prelude.{◌≡◌, refl, sym, ap, ◌∙◌, ℕ, zero, suc, ◌+◌, ◌-◌, ◌*◌, ◌/◌, ◌%◌, ◌≤◌, ◌<◌, List, List-as-Memᴰ, List·Memᴰ·head, List·Memᴰ·tail, List·Memᴰ·not-nil, List·Memᴰ·cases-cons, [], ◌∷◌, true, inl, inr, get_or, length, add-one, add-zero, arith, eq-eqb, eqb-false, eqb-true, by_cases, by_eq, by_mark, by_test, untrue}
use Prim.Native.Nat.{◌^◌}
use lib.{Count.{ones, ones_step, count_trailing_zeros}, Pow.{shr-shr, high}}
use Rattle.masks.specs.Masks.{is_set, ticks_from}

-- ---- One bit
half : (m i : ℕ) → m / 2 ^ suc i ≡ m / 2 ^ i / 2
half m i = rw (← add-one i) (sym (shr-shr m i 1))

-- ---- The highest: the bit t of a mask from 2 ^ t on and below 2 ^ (t + 1)
pub highest_set : (m t : ℕ) → 2 ^ t ≤ m → m < 2 ^ suc t → is_set m t ≡ true
highest_set m t l h = unfold is_set in let e : 1 * 2 ^ t + (m - 2 ^ t) ≡ m = omega arith in
    let q = rw e at (high 1 t {lo = m - 2 ^ t} (omega arith)) in eq-eqb (m / 2 ^ t % 2) 1 (omega arith)

-- ---- The bits from i on
module _ (base mask : ℕ) where
  -- none is set where nothing is left
  pub none_from : (n i : ℕ) → mask / 2 ^ i ≡ 0 → ticks_from base mask i n ≡ []
  unfolding ticks_from is_set
  none_from zero i e = refl
  none_from (suc n) i e =
      rw (untrue (is_set mask i) (λ s. omega (arith, eqb-true))) (none_from n (suc i) (half mask i ∙ ap (λ x. x / 2) e))

  -- they are as many as the bits at most
  pub few_from : (n i : ℕ) → length (ticks_from base mask i n) ≤ n
  unfolding ticks_from
  few_from zero i = omega arith
  few_from (suc n) i = let h = few_from n (suc i) in by_test (is_set mask i) (λ e. rw e (omega arith)) (λ e. rw e (omega arith))

  -- and as many as what is left has ones
  pub count_from : (n i : ℕ) → mask / 2 ^ i < 2 ^ n → length (ticks_from base mask i n) ≡ ones (mask / 2 ^ i)
  unfolding ticks_from is_set
  count_from zero i h = let z : mask / 2 ^ i ≡ 0 = omega arith in rw z (unfold ones in refl)
  count_from (suc n) i h =
      let rest = count_from n (suc i) (rw half (omega arith)) ∙ ap ones (half mask i) in
      by_cases (λ (r : List ℕ). length r ≡ ones (mask / 2 ^ i)) (is_set mask i)
      (λ e. omega (arith, rest, eqb-true, ones_step (mask / 2 ^ i)))
      (λ e. omega (arith, rest, eqb-false, ones_step (mask / 2 ^ i)))

  -- where `left` is left of the mask and not 0, the first is the one at which its zeros end
  pub record Next (i n z : ℕ) : Type 0 where
    pub within : z < n
    pub is : ticks_from base mask i n ≡ (base + (i + z)) ∷ ticks_from base mask (suc (i + z)) (n - suc z)

  pub next : (n k i left : ℕ) → mask / 2 ^ i ≡ left → n ≤ k → left < 2 ^ n → (left ≡ 0 → ⊥) → Next i n (count_trailing_zeros k left)
  unfolding ticks_from count_trailing_zeros is_set
  next zero k i left s l h p = absurd (p (omega arith))
  next (suc n) zero i left s l h p = absurd (omega arith)
  next (suc n) (suc k) i left s l h p = by_test (is_set mask i)
      (λ e.
      let one : left % 2 ≡ 1 = omega (arith, eqb-true) in
      let down : suc n - 1 ≡ n = omega arith in
      rw one (record { within = omega arith; is = rw (e, add-zero i, down) }))
      (λ e.
      let none : left % 2 ≡ 0 = omega (arith, eqb-false) in
      let z : ℕ = count_trailing_zeros k (left / 2) in
      let q = next n k (suc i) (left / 2) (half mask i ∙ ap (λ x. x / 2) s) (omega arith) (omega arith) (λ o. p (omega arith)) in
      let up : suc i + z ≡ i + suc z = omega arith in
      let down : n - suc z ≡ suc n - suc (suc z) = omega arith in
      rw none (record { within = omega arith; is = rw e (rw (up, down) at q.is) }))

  -- ---- Which days they are
  pub bit_of : (k n i d : ℕ) → i + n ≤ k → List-as-Memᴰ d (ticks_from base mask i n) → (j : ℕ) × (j < k) × (is_set mask j ≡ true) × (d ≡ base + j)
  unfolding ticks_from
  bit_of k zero i d l m = absurd (List·Memᴰ·not-nil m)
  bit_of k (suc n) i d l m = by_test (is_set mask i)
      (λ e. elim (List·Memᴰ·cases-cons (rw e at m)) [ inl h ↦ (i, omega arith, e, h) | inr t ↦ bit_of k n (suc i) d (omega arith) t ])
      (λ e. bit_of k n (suc i) d (omega arith) (rw e at m))

  pub of_bit : (n i j : ℕ) → i ≤ j → j < i + n → is_set mask j ≡ true → List-as-Memᴰ (base + j) (ticks_from base mask i n)
  unfolding ticks_from
  of_bit zero i j l h s = absurd (omega arith)
  of_bit (suc n) i j l h s = by_eq i j l
      (λ e. rw (e, s) (List·Memᴰ·head refl))
      (λ g. let t = of_bit n (suc i) j g (omega arith) s in by_cases (List-as-Memᴰ (base + j)) (is_set mask i) (λ _. List·Memᴰ·tail t) (λ _. t))

  -- ---- Each is above the one before, and the first above whatever d is below it
  pub rises_from : (n i d k : ℕ) → d < base + i + k → k < length (ticks_from base mask i n) → get_or (d ∷ ticks_from base mask i n) k 0 < get_or (ticks_from base mask i n) k 0
  unfolding ticks_from
  rises_from zero i d k l h = absurd (omega arith)
  rises_from (suc n) i d k l h = by_cases (λ (r : List ℕ). k < length r → get_or (d ∷ r) k 0 < get_or r k 0) (is_set mask i)
      (λ _ h. by_mark k (λ z. rw z (omega arith)) (λ j z. rw z (rises_from n (suc i) (base + i) j (omega arith) (omega arith))))
      (λ _. rises_from n (suc i) d k (omega arith)) h
