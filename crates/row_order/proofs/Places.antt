-- Positions sorted by an order; columns below a limit; positions in order, two by two. Assumes nothing.
use Rattle.basis.proofs.Prelude.{both, ℕ, zero, suc, ◌+◌, ◌-◌, ◌≤◌, ◌<◌, arith, zero-add, ◌≡◌, sym, ◌∙◌, Bool, true, false, List, [], ◌∷◌, ltb-true, ltb, length, get_or, drop}
use Rattle.orders.{specs.Orders.{sorted_by, is_in_order_by}, proofs.Sorting.{Total, each_sorted, pass, pass_end}}
use Rattle.columns.{specs.Columns.positions, proofs.Filling.{positions_length, positions_at, positions_from}}
use Rattle.row_order.specs.Arranged.{all_below, limit}
use Rattle.row_order.proofs.Orders.{Strict, inserted_strict}

-- sorted by any order, no two are at one place
pub positions_strict : {t : ℕ → ℕ → Bool} → Total t → (k n : ℕ) → Strict t (sorted_by t (positions k n))
unfolding sorted_by positions
positions_strict o k zero = tt
positions_strict {t} o k (suc n) =
    inserted_strict o k (sorted_by t (positions (suc k) n)) (each_sorted t (λ y. k < y) (positions (suc k) n) (positions_from (suc k) (suc k) n (omega arith)))
    (positions_strict o (suc k) n)

-- ---- All below the limit

pub below_at : (l : List ℕ) (i : ℕ) → all_below l ≡ true → i < length l → get_or l i 0 < limit
unfolding all_below
below_at [] i h k = absurd (omega arith)
below_at (x ∷ l) zero h k = ltb-true x limit (both (ltb x limit) (all_below l) h).0
below_at (x ∷ l) (suc i) h k = below_at l i (both (ltb x limit) (all_below l) h).1 (omega arith)

-- ---- The positions in order, two by two

-- the last position tested is p - 1; r tells whether p comes before it
module _ (t : ℕ → ℕ → Bool) (n p : ℕ) (one : 1 ≤ p) (so : is_in_order_by t (positions 0 n) ≡ is_in_order_by t (drop (p - 1) (positions 0 n))) where
  back : p - 1 + 1 ≡ p
  back = omega arith

  two : {r b : Bool} → p < n → r ≡ t p (p - 1) → r ≡ b → t (get_or (positions 0 n) (p - 1 + 1) 0) (get_or (positions 0 n) (p - 1) 0) ≡ b
  two h e d = rw (back, positions_at 0 n (p - 1) (omega arith), positions_at 0 n p h, zero-add (p - 1), zero-add p) (sym e ∙ d)

  pub row_on : {r : Bool} → p < n → r ≡ t p (p - 1) → r ≡ false → is_in_order_by t (positions 0 n) ≡ is_in_order_by t (drop (p + 1 - 1) (positions 0 n))
  row_on h e d = let z : p + 1 - 1 ≡ p - 1 + 1 = omega arith in
      so ∙ pass t 0 (positions 0 n) (p - 1) (omega (arith, positions_length 0 n)) ∙ rw (z, two h e d)

  pub row_off : {r : Bool} → p < n → r ≡ t p (p - 1) → r ≡ true → false ≡ is_in_order_by t (positions 0 n)
  row_off h e d = sym (so ∙ pass t 0 (positions 0 n) (p - 1) (omega (arith, positions_length 0 n)) ∙ rw (two h e d))

  pub row_end : n ≤ p → true ≡ is_in_order_by t (positions 0 n)
  row_end h = sym (so ∙ pass_end t 0 (positions 0 n) (p - 1) (omega (arith, positions_length 0 n)))
