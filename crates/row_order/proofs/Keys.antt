-- The key of a row decides as its days and its candidate do, one after the other. Assumes nothing.
use Rattle.basis.proofs.Prelude.{◌∙◌, ◌≡◌, ◌<◌, ℕ, Bool, cond, eqb, ltb, arith, sym, by_test}
use Rattle.row_order.specs.Rows.{paired, row_key}
use Rattle.orders.proofs.Keys.{key_is, key_is_not, key_says, key_denies}

-- two numbers in one decide as the two do
pair_decides : (f l g m : ℕ) (r : Bool) → l < 65536 → m < 65536
    → cond (eqb (paired f l) (paired g m)) r (ltb (paired f l) (paired g m)) ≡ cond (eqb f g) (cond (eqb l m) r (ltb l m)) (ltb f g)
pair_decides f l g m r hl hm = by_test (cond (eqb (paired f l) (paired g m)) r (ltb (paired f l) (paired g m)))
    (λ e. let s = key_says (paired f l) (paired g m) r e in e ∙ sym (key_is f g _ (omega arith) (λ z. key_is l m r (omega arith) (λ y. s.1 (omega arith)))))
    (λ e. let s = key_denies (paired f l) (paired g m) r e in e ∙ sym (key_is_not f g _ (omega arith) (λ z. key_is_not l m r (omega arith) (λ y. s.1 (omega arith)))))

-- FIRST DAY, LAST DAY, CANDIDATE: those of 16 bits in one number decide as the three do
pub key_decides : (f l c g m d : ℕ) (r : Bool) → (l < 65536) × (c < 65536) → (m < 65536) × (d < 65536)
    → cond (eqb (row_key f l c) (row_key g m d)) r (ltb (row_key f l c) (row_key g m d))
    ≡ cond (eqb f g) (cond (eqb l m) (cond (eqb c d) r (ltb c d)) (ltb l m)) (ltb f g)
key_decides f l c g m d r h k = pair_decides (paired f l) c (paired g m) d r h.1 k.1 ∙ pair_decides f l g m _ h.0 k.0
