-- Rows that can be published, row by row. Assumes nothing.
use Rattle.stabbing_index.proofs.Names.{not, not-true, not-false, rules, ◌∙◌, ◌≡◌, refl, sym, ◌+◌, ◌<◌, ◌≤◌, zero-le, ℕ, List, Bool, ◌&&◌, false, true, drop, drop_of_length-le, get_or, length, take, drop-cons, get_or-take, length-take-le, add-one, arith, row_ok, may_follow, rows_after, rows_ok}

-- what is still to be tested decides: of the first n rows, from the row k on, after a row with the days f and l
pub record Rest (xs ys : List ℕ) (n f l k : ℕ) : Type 0 where
  pub firsts : n ≤ length xs
  pub lasts : n ≤ length ys
  pub within : k ≤ n
  pub decides : rows_ok (take n xs) (take n ys) ≡ rows_after f l (drop k (take n xs)) (drop k (take n ys))

pub rest_all : {xs ys : List ℕ} {n : ℕ} → n ≤ length xs → n ≤ length ys → Rest xs ys n 0 0 0
rest_all h g = record { firsts = h; lasts = g; within = zero-le; decides = refl }

module _ {xs ys : List ℕ} {n f l k : ℕ} (r : Rest xs ys n f l k) where
  long : (length (take n xs) ≡ n) × (length (take n ys) ≡ n)
  long = (length-take-le n xs r.firsts, length-take-le n ys r.lasts)

  pub rest_none : n ≤ k → true ≡ rows_ok (take n xs) (take n ys)
  rest_none h = unfold rows_after in sym (r.decides ∙ rw (drop_of_length-le (take n xs) {i = k} (omega (arith, long.0)), drop_of_length-le (take n ys) {i = k} (omega (arith, long.1))))

  module _ (lt : k < n) where
    row : rows_ok (take n xs) (take n ys) ≡ row_ok (get_or xs k 0) (get_or ys k 0) && may_follow f l (get_or xs k 0) (get_or ys k 0) && rows_after (get_or xs k 0) (get_or ys k 0) (drop (k + 1) (take n xs)) (drop (k + 1) (take n ys))
    unfolding rows_after
    row = r.decides ∙ rw (drop-cons (take n xs) k 0 (omega (arith, long.0)), drop-cons (take n ys) k 0 (omega (arith, long.1)), get_or-take n xs k 0 lt, get_or-take n ys k 0 lt, add-one k)

    module _ {b : Bool} (e : b ≡ row_ok (get_or xs k 0) (get_or ys k 0) && may_follow f l (get_or xs k 0) (get_or ys k 0)) where
      pub row_wrong : not b ≡ true → false ≡ rows_ok (take n xs) (take n ys)
      row_wrong z = sym (row ∙ rw (sym e ∙ not-true b z))

      pub row_right : not b ≡ false → Rest xs ys n (get_or xs k 0) (get_or ys k 0) (k + 1)
      row_right z = record { firsts = r.firsts; lasts = r.lasts; within = omega arith; decides = row ∙ rw (sym e ∙ not-false b z) }

pub ruleset steps = (rest_all, rest_none, row_wrong, row_right, rules)
