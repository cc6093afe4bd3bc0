-- An order by keys, of which the last tells any two elements apart, is total. Assumes nothing.
use Rattle.basis.proofs.Prelude.{◌≡◌, refl, sym, ℕ, ◌≤◌, List, [], ◌∷◌, ◌++◌, Bool, true, false, cond, eqb, ltb, arith, eqb-false, eqb-true, lt-ltb, le-ltb, ltb-false, ltb-true, by_test}
use Rattle.orders.specs.Orders.{lexical}
use Rattle.orders.proofs.Sorting.{Total}

-- ---- One key: x is below y, or they are equal and the later keys decide

module _ (x y : ℕ) (b : Bool) where
  pub key_is : x ≤ y → (x ≡ y → b ≡ true) → cond (eqb x y) b (ltb x y) ≡ true
  key_is h f = by_test (eqb x y) (λ e. rw e (f (eqb-true x y e))) (λ e. rw e (lt-ltb x y (let n : x ≡ y → ⊥ = eqb-false x y e in omega arith)))

  pub key_is_not : y ≤ x → (x ≡ y → b ≡ false) → cond (eqb x y) b (ltb x y) ≡ false
  key_is_not h f = by_test (eqb x y) (λ e. rw e (f (eqb-true x y e))) (λ e. rw e (le-ltb x y h))

  pub key_says : cond (eqb x y) b (ltb x y) ≡ true → (x ≤ y) × (x ≡ y → b ≡ true)
  key_says h = by_test (eqb x y) (λ e. (omega (arith, eqb-true x y e), λ _. rw e at h)) (λ e. (omega (arith, ltb-true x y (rw e at h)), λ z. absurd (eqb-false x y e z)))

  pub key_denies : cond (eqb x y) b (ltb x y) ≡ false → (y ≤ x) × (x ≡ y → b ≡ false)
  key_denies h = by_test (eqb x y) (λ e. (omega (arith, eqb-true x y e), λ _. rw e at h)) (λ e. (ltb-false x y (rw e at h), λ z. absurd (eqb-false x y e z)))

-- the last key
pub key_last : (x y : ℕ) → ltb x y ≡ cond (eqb x y) false (ltb x y)
key_last x y = by_test (eqb x y) (λ e. rw (e, eqb-true x y e) (le-ltb y y (omega arith))) (λ e. rw e)

pub numbers : Total ltb
numbers = omega (arith, le-ltb, ltb-true, ltb-false)

-- ---- Any keys

module _ {A : Type 0} where
  pub lexical_asym : (ks : List (A → ℕ)) (a b : A) → lexical ks a b ≡ true → lexical ks b a ≡ false
  unfolding lexical
  lexical_asym [] a b h = refl
  lexical_asym (f ∷ ks) a b h =
      let s = key_says (f a) (f b) _ h in
      key_is_not (f b) (f a) _ s.0 (λ e. lexical_asym ks a b (s.1 (sym e)))

  pub lexical_over : (ks : List (A → ℕ)) (a b c : A) → lexical ks b a ≡ false → lexical ks c b ≡ false → lexical ks c a ≡ false
  unfolding lexical
  lexical_over [] a b c h i = refl
  lexical_over (f ∷ ks) a b c h i =
      let s = key_denies (f b) (f a) _ h in
      let z = key_denies (f c) (f b) _ i in
      key_is_not (f c) (f a) _ (omega arith) (λ e. lexical_over ks a b c (s.1 (omega arith)) (z.1 (omega arith)))

  module _ (k : A → ℕ) (apart : (a b : A) → k a ≡ k b → a ≡ b) where
    lexical_one : (ks : List (A → ℕ)) (a b : A) → lexical (ks ++ (k ∷ [])) a b ≡ false → lexical (ks ++ (k ∷ [])) b a ≡ false → a ≡ b
    unfolding lexical
    lexical_one [] a b h i = apart a b (omega (arith, (key_denies (k a) (k b) false h).0, (key_denies (k b) (k a) false i).0))
    lexical_one (f ∷ ks) a b h i =
        let s = key_denies (f a) (f b) _ h in
        let z = key_denies (f b) (f a) _ i in
        lexical_one ks a b (s.1 (omega arith)) (z.1 (omega arith))

    pub by_keys : (ks : List (A → ℕ)) → Total (lexical (ks ++ (k ∷ [])))
    by_keys ks = record { asym = lexical_asym (ks ++ (k ∷ [])); trans = lexical_over (ks ++ (k ∷ [])); one = lexical_one ks }
