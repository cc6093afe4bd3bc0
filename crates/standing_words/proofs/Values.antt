-- Words that hold values, k words each: cut and joined at whole values they hold the values cut and joined. Assumes nothing.
use Rattle.basis.proofs.Prelude.{◌∙◌, ◌≡◌, ap, refl, sym, ◌*◌, ◌+◌, ◌-◌, ◌<◌, ◌≤◌, suc, ℕ, List, [], ◌++◌, ◌∷◌, append-nil, append_snoc, drop, length, length-append, length-drop, take, take-append-drop, drop_at, length-take-le, slice, set, set_split, sets-eq, add-one, take_at, mul-le-mul_right, suc-mul, arith}
use Rattle.std.specs.List.{copy_within}
use Rattle.standing_words.proofs.Names.{put_sets, Holds, add-mul, copied, parts, parts_length, parts_near, parts_part, put, written, written_append, written_length}

module _ {A : Type 0} (k : ℕ) (f : A → List ℕ) (g : List ℕ → A) (wide : (x : A) → length (f x) ≡ k) (near : (x r : List ℕ) → k ≤ length x → g (x ++ r) ≡ g x) (L : Type 0) where
  abbrev Are : ℕ → List ℕ → List A → Type 0
  Are = Holds k f g L

  pub join : {m n : ℕ} {x y : List ℕ} {a b : List A} → Are m x a → Are n y b → Are (m + n) (x ++ y) (a ++ b)
  join {m} {n} {x} {y} {a} {b} p q = record {
    long = omega (arith, length-append x y, p.long, q.long, add-mul m n k);
    read = parts_part k g m n (x ++ y) ∙ rw (parts_near k g near m x y (omega (arith, p.long)), drop_at x y (m * k) p.long, p.read, q.read);
    laid = λ h. written_append f g wide a b ∙ rw (p.laid h, q.laid h);
  }

  -- the first i values, and those behind them
  cut : {n : ℕ} {x : List ℕ} {a : List A} (i j : ℕ) → n ≡ i + j → Are n x a → Are i (take (i * k) x) (take i a) × Are j (drop (i * k) x) (drop i a)
  cut {x = x} {a} i j all p =
      let y = take (i * k) x in
      let z = drop (i * k) x in
      let whole : length x ≡ i * k + j * k = p.long ∙ rw all (add-mul i j k) in
      let long : length y ≡ i * k = length-take-le (i * k) x (omega arith) in
      let read : parts k g i x ≡ parts k g i y = rw (take-append-drop (i * k) x) at (parts_near k g near i y z (omega arith)) in
      let values : a ≡ parts k g i y ++ parts k g j z = sym p.read ∙ rw (all, parts_part k g i j x, read) in
      let many : length (written f (parts k g i y)) ≡ i * k = written_length f g wide (parts k g i y) ∙ rw (parts_length k g i y) in
      let wrote : L → x ≡ written f (parts k g i y) ++ written f (parts k g j z) = λ h. sym (p.laid h) ∙ rw values (written_append f g wide (parts k g i y) (parts k g j z)) in
      rw (values, take_at (parts k g i y) (parts k g j z) i (parts_length k g i y), drop_at (parts k g i y) (parts k g j z) i (parts_length k g i y)) (
        record { long = long; read = refl; laid = λ h. sym (ap (take (i * k)) (wrote h) ∙ take_at (written f (parts k g i y)) (written f (parts k g j z)) (i * k) many) },
        record { long = omega (arith, length-drop (i * k) x); read = refl; laid = λ h. sym (ap (drop (i * k)) (wrote h) ∙ drop_at (written f (parts k g i y)) (written f (parts k g j z)) (i * k) many) },
      )

  pub one : (s : A) → g (f s) ≡ s → Are 1 (f s) (s ∷ [])
  unfolding parts written
  one s back = record { long = omega (arith, wide s); read = ap (λ (y : A). y ∷ []) back; laid = λ h. append-nil (f s) }

  module _ {n : ℕ} {x : List ℕ} {a : List A} (v : Are n x a) where
    -- the values from p up to i
    some : (p i : ℕ) → p ≤ i → i ≤ n → Are (i - p) (slice (p * k) (i * k) x) (slice p i a)
    some p i h b = (cut p (i - p) (omega arith) (cut i (n - i) (omega arith) v).0).1

    -- values are put over those from the value i on
    puts_many : (i m : ℕ) {w : List ℕ} {b : List A} → Are m w b → i + m ≤ n → Are n (take (i * k) x ++ w ++ drop ((i + m) * k) x) (take i a ++ b ++ drop (i + m) a)
    puts_many i m q h =
        let all : (i + m) + (n - (i + m)) ≡ n = omega arith in
        rw all at (join (join (cut i (n - i) (omega arith) v).0 q) (cut (i + m) (n - (i + m)) (omega arith) v).1)

    -- the values i to j - 1 are copied to the value d on
    pub copies : (i j d : ℕ) → i ≤ j → j ≤ n → d + (j - i) ≤ n → Are n (copy_within x (i * k) (j * k) (d * k)) (copy_within a i j d)
    copies i j d h b fits =
        let all : i + (j - i) ≡ j = omega arith in
        let end : d * k + (j * k - i * k) ≡ (d + (j - i)) * k = omega (arith, add-mul d (j - i) k, rw all at (add-mul i (j - i) k)) in
        rw (copied i j d a h, copied (i * k) (j * k) (d * k) x (mul-le-mul_right k h), end) (puts_many d (j - i) (some i j h b) fits)

    -- a value is put over the value i
    pub puts_over : (i : ℕ) (s : A) → g (f s) ≡ s → i < n → Are n (put (i * k) (f s) x) (set a i s)
    puts_over i s back b =
        let room : i * k + length (f s) ≤ length x = omega (arith, wide s, v.long, suc-mul i k, mul-le-mul_right k b) in
        let end : i * k + length (f s) ≡ (i + 1) * k = omega (arith, wide s, add-mul i 1 k) in
        rw (← put_sets (i * k) (f s) x room, sets-eq (f s) x (i * k) room, end, set_split a i s (omega (arith, ap length v.read, parts_length k g n x)), ← append_snoc (take i a) s (drop (suc i) a), ← add-one i) (puts_many i 1 (one s back) (omega arith))
