-- The orders of positions, and a sort of different numbers: the place of a number tells as much as the test. Assumes nothing.
use Rattle.basis.proofs.Prelude.{by_cases, by_eq, ℕ, zero, suc, ◌+◌, ◌*◌, ◌<◌, arith, ◌≡◌, refl, sym, ap, ◌∙◌, Bool, true, cond, List, [], ◌∷◌, lt-ltb, le-ltb, ltb-true, ltb-false, ltb, eqb, length, get_or, by_test}
use Rattle.orders.{specs.Orders.{lexical, insert_by}, proofs.{Each.{Each, each_at, each_weaken}, Sorting.{Total, each_inserted, irrefl, later}, Keys.{key_is, key_is_not, key_last, by_keys}}}
use Rattle.row_order.specs.Arranged.{by_minor, by_both}

-- three ways in which two numbers stand
pub three : {C : Type 0} (a b : ℕ) → (a < b → C) → (a ≡ b → C) → (b < a → C) → C
three a b f g h = by_test (ltb a b) (λ e. f (ltb-true a b e)) (λ e. by_eq b a (ltb-false a b e) (λ z. g (sym z)) h)

pub by_minor_lem : (minor : List ℕ) → Total (by_minor minor)
by_minor_lem minor = unfold by_minor in by_keys (λ p. p) (λ p q e. e) ((λ p. get_or minor p 0) ∷ [])

pub by_both_lem : (major minor : List ℕ) → Total (by_both major minor)
by_both_lem major minor = unfold by_both in by_keys (λ p. p) (λ p q e. e) ((λ p. get_or major p 0) ∷ (λ p. get_or minor p 0) ∷ [])

-- the major decides, and else the minor
pub by_major : (major minor : List ℕ) (p q : ℕ) → by_both major minor p q ≡ cond (eqb (get_or major p 0) (get_or major q 0)) (by_minor minor p q) (ltb (get_or major p 0) (get_or major q 0))
by_major major minor p q = unfold by_both by_minor lexical in refl

-- the minor decides, and else the place
pub by_place : (minor : List ℕ) (p q : ℕ) → by_minor minor p q ≡ cond (eqb (get_or minor p 0) (get_or minor q 0)) (ltb p q) (ltb (get_or minor p 0) (get_or minor q 0))
by_place minor p q = unfold by_minor lexical in ap (λ (b : Bool). cond (eqb (get_or minor p 0) (get_or minor q 0)) b (ltb (get_or minor p 0) (get_or minor q 0))) (sym (key_last p q))

-- two keys in one number
pub packed : (x y p q : ℕ) → p < 1024 → q < 1024 → ltb (x * 1024 + p) (y * 1024 + q) ≡ cond (eqb x y) (ltb p q) (ltb x y)
packed x y p q h k = by_test (ltb (x * 1024 + p) (y * 1024 + q))
    (λ e. e ∙ sym (key_is x y _ (omega (arith, ltb-true)) (λ z. lt-ltb p q (omega (arith, ltb-true)))))
    (λ e. e ∙ sym (key_is_not x y _ (omega (arith, ltb-false)) (λ z. le-ltb p q (omega (arith, ltb-false)))))

-- ---- A list of different numbers, sorted

-- each comes before all that follow
abbrev pub Strict : (ℕ → ℕ → Bool) → List ℕ → Type 0
Strict t [] = Unit {0}
Strict t (x ∷ l) = Each (λ y. t x y ≡ true) l × Strict t l

module _ {t : ℕ → ℕ → Bool} (o : Total t) where
  pub inserted_strict : (x : ℕ) (l : List ℕ) → Each (λ y. x < y) l → Strict t l → Strict t (insert_by t x l)
  unfolding insert_by
  inserted_strict x [] d k = (tt, tt)
  inserted_strict x (y ∷ l) d k = by_cases (Strict t) (t y x)
      (λ e. (each_inserted t (λ z. t y z ≡ true) x l e k.0, inserted_strict x l d.1 k.1))
      (λ e. let f : t x y ≡ true = by_test (t x y) (λ g. g) (λ g. absurd (omega (arith, d.0, o.one x y g e))) in
      ((f, each_weaken (λ z. t y z ≡ true) (λ z. t x z ≡ true) (λ z. later o x y z f) l k.0), k))

  strict_at : (l : List ℕ) (r s : ℕ) → Strict t l → r < s → s < length l → t (get_or l r 0) (get_or l s 0) ≡ true
  strict_at [] r s k h i = absurd (omega arith)
  strict_at (x ∷ l) r zero k h i = absurd (omega arith)
  strict_at (x ∷ l) zero (suc s) k h i = each_at (λ y. t x y ≡ true) l s 0 k.0 (omega arith)
  strict_at (x ∷ l) (suc r) (suc s) k h i = strict_at l r s k.1 (omega arith) (omega arith)

  pub rank : (l : List ℕ) → Strict t l → (r s : ℕ) → r < length l → s < length l → ltb r s ≡ t (get_or l r 0) (get_or l s 0)
  rank l k r s hr hs = by_test (ltb r s) (λ e. e ∙ sym (strict_at l r s k (ltb-true r s e) hs))
      (λ e. e ∙ sym (by_eq s r (ltb-false r s e) (λ z. rw z (irrefl o (get_or l r 0))) (λ h. o.asym _ _ (strict_at l s r k h hr))))
