-- What is over a list: laws of values in its first places. Assumes nothing.
use Rattle.basis.proofs.Prelude.{◌∙◌, ◌≡◌, ap, sym, ◌+◌, ◌-◌, ◌≤◌, min, min-le_left, min-le_right, ℕ, List, ◌++◌, drop, length, length-append, length-drop, length-replicate, replicate, replicate-append-replicate, take, take_all, take-append-drop, take-length, drop-append-add, drop_at, drop-drop, length-take-le, leb, leb-false, leb-true, by_test, arith}
use native.Mathlib.Nat.{min-eq_left, min-eq_right}
use Rattle.buffer.specs.Buffer.{over}

-- the less of two is at most each
pub least_in : {n a b : ℕ} → n ≡ min a b → (n ≤ a) × (n ≤ b)
least_in {n} {a} {b} e = (omega (arith, min-le_left a b), omega (arith, min-le_right a b))

module _ {A : Type 0} where
  -- a count above a list's length names all of it
  pub take_least : (n : ℕ) (a : List A) → take (min n (length a)) a ≡ take n a
  take_least n a = by_test (leb n (length a)) (λ t. rw (min-eq_left (leb-true n (length a) t)))
      (λ t. let long : length a ≤ n = omega (arith, leb-false n (length a) t) in rw (min-eq_right long, take-length a, take_all n a long))

  pub least_names : {n k : ℕ} (count : ℕ) (a : List A) → length a ≡ k → n ≡ min count k → take n a ≡ take count a
  least_names {n} {k} count a long e = rw (e, ← long) (take_least count a)

  -- the list is as long as before
  pub over_length : (l a : List A) → length l ≤ length a → length (over l a) ≡ length a
  over_length l a h = omega (arith, length-append l (drop (length l) a), length-drop (length l) a)

  -- its own first values change nothing
  pub own_over : (n : ℕ) (a : List A) → n ≤ length a → over (take n a) a ≡ a
  own_over n a h = rw (length-take-le n a h) (take-append-drop n a)

  -- the places past those that were written
  drop_over : (m : List A) (n : ℕ) (a : List A) → length m ≤ n → drop n (over m a) ≡ drop n a
  drop_over m n a h =
      let is : n ≡ length m + (n - length m) = omega arith in
      cc (drop-append-add m (drop (length m) a) (n - length m), drop-drop (n - length m) (length m) a)

  -- of two writings the longer one stays
  pub over_twice : (m l a : List A) → length m ≤ length l → over l (over m a) ≡ over l a
  over_twice m l a h = ap (λ (r : List A). l ++ r) (drop_over m (length l) a h)

  -- a list whose first n places hold l, and whose later places are those of a
  pub over_is : (l a b : List A) (n : ℕ) → n ≤ length b → take n b ≡ l → drop n b ≡ drop n a → b ≡ over l a
  over_is l a b n h first rest =
      let long : length l ≡ n = ap length (sym first) ∙ length-take-le n b h in
      sym (take-append-drop n b) ∙ rw (first, rest, long)

  -- blank places stay past the values
  pub over_blank : (l : List A) (n : ℕ) (x : A) → length l ≤ n → over l (replicate n x) ≡ l ++ replicate (n - length l) x
  over_blank l n x h =
      let is : n ≡ length l + (n - length l) = omega arith in
      cc (replicate-append-replicate (length l) (n - length l) x, drop_at (replicate (length l) x) (replicate (n - length l) x) (length l) (length-replicate (length l) x))
