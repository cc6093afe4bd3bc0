-- A decimal is read as it was written, and what is read is what is written. Assumes nothing.
use Rattle.decimals.proofs.Names.{List, [], ◌%◌, ◌*◌, ◌+◌, ◌-◌, ◌/◌, ◌<◌, ◌^◌, ◌∙◌, ◌∷◌, ◌≡◌, ◌≤◌, arith, by_test, decimal_of, digit_is, digit_range, digits_of, ended_back, eq-eqb, eqb, eqb-false, eqb-true, found, is_digit, le-leb, le-ltb, leb, leb-true, lt-leb, lt-ltb, ltb, ltb-false, ltb-true, more, ne_eqb, never, passed, read_decimal, read_digits, read_length, read_number, refl, suc, sym, true, zero, ℕ}

-- ---- one more digit
pub digits_one : (k n : ℕ) (rest : List ℕ) → n < 10 → digits_of k n rest ≡ (48 + n) ∷ rest
unfolding digits_of
digits_one zero n rest h = refl
digits_one (suc k) n rest h = rw (lt-ltb n 10 h)

pub digits_more : (k n : ℕ) (rest : List ℕ) → 10 ≤ n → n < 10 ^ suc k → digits_of k n rest ≡ digits_of k (n / 10) ((48 + n % 10) ∷ rest)
digits_more k n rest h l = unfold digits_of in sym (more k n rest l) ∙ rw (le-ltb n 10 h)

-- a number up to `top`, of at most k + 1 digits
module _ (top : ℕ) where
  -- ---- what is written is read
  digit_read : (v d n : ℕ) (rest : List ℕ) → d < 10 → 10 * v + d ≡ n → n ≤ top → read_digits top v ((48 + d) ∷ rest) ≡ read_digits top n rest
  digit_read v d n rest h e t = unfold read_digits in
      let is : 10 * v + (48 + d - 48) ≡ n = omega arith in
      rw (digit_is (48 + d) (omega arith) (omega arith), is, le-leb n top t)

  first_digit : (n : ℕ) (rest : List ℕ) → 0 < n → n < 10 → n ≤ top → read_decimal top ((48 + n) ∷ rest) ≡ read_digits top n rest
  unfolding read_decimal
  first_digit n rest z h t =
      rw (ne_eqb (48 + n) 48 (λ e. omega arith), digit_is (48 + n) (omega arith) (omega arith)) (digit_read 0 n n rest h (omega arith) t)

  -- reading the digits of n is having read n
  read_digits_lem : (k n : ℕ) (rest : List ℕ) → 0 < n → n ≤ top → n < 10 ^ suc k → read_decimal top (digits_of k n rest) ≡ read_digits top n rest
  unfolding digits_of
  read_digits_lem zero n rest z h l = first_digit n rest z l h
  read_digits_lem (suc k) n rest z h l =
      by_test (ltb n 10) (λ s. rw s (first_digit n rest z (ltb-true n 10 s) h))
      (λ s. let m = ltb-false n 10 s in
      rw (s, read_digits_lem k (n / 10) ((48 + n % 10) ∷ rest) (omega arith) (omega arith) (omega arith)) (digit_read (n / 10) (n % 10) n rest (omega arith) (omega arith) h))

  -- followed by a byte that ends it
  pub read_length_lem : (k e n : ℕ) (rest : List ℕ) → e < 48 → n ≤ top → n < 10 ^ suc k → read_length top e (digits_of k n (e ∷ rest)) ≡ found n rest
  unfolding passed read_decimal read_digits
  read_length_lem k e zero rest h t l = rw (digits_one k 0 (e ∷ rest) (omega arith), eq-eqb e e refl)
  read_length_lem k e (suc n) rest h t l = rw (read_digits_lem k (suc n) (e ∷ rest) (omega arith) t l, lt-leb 48 e h, eq-eqb e e refl)

  -- ---- what is read is at most the limit, and is what is written
  digit_back : (v b n : ℕ) (s rest : List ℕ) → is_digit b ≡ true → read_digits top v (b ∷ s) ≡ found n rest
      → (10 * v + (b - 48) ≤ top) × (read_digits top (10 * v + (b - 48)) s ≡ found n rest)
  digit_back v b n s rest d e = unfold read_digits in
      by_test (leb (10 * v + (b - 48)) top) (λ m. (leb-true _ top m, rw (d, m) at e)) (λ m. absurd (never (rw (d, m) at e)))

  module _ (k : ℕ) where
    digits_back : (v : ℕ) (s : List ℕ) (n : ℕ) (rest : List ℕ) → v ≤ top → read_digits top v s ≡ found n rest
        → (n ≤ top) × (0 < v → top < 10 ^ suc k → digits_of k v s ≡ digits_of k n rest)
    unfolding read_digits
    digits_back v [] n rest h e = let is : v ≡ n = cc in (omega arith, λ _ _. cc)
    digits_back v (b ∷ s) n rest h e =
        by_test (is_digit b)
        (λ d.
        let p = digit_back v b n s rest d e in
        let w = digits_back (10 * v + (b - 48)) s n rest p.0 p.1 in
        let digit = digit_range b d in
        let up : (10 * v + (b - 48)) / 10 ≡ v = omega arith in
        let last : 48 + (10 * v + (b - 48)) % 10 ≡ b = omega arith in
        (w.0, λ z l. sym (digits_more k (10 * v + (b - 48)) s (omega arith) (omega arith) ∙ rw (up, last)) ∙ w.1 (omega arith) l))
        (λ d. let is : v ≡ n = cc in (omega arith, λ _ _. cc))

    decimal_back : (s : List ℕ) (n : ℕ) (rest : List ℕ) → read_decimal top s ≡ found n rest → (n ≤ top) × (top < 10 ^ suc k → s ≡ digits_of k n rest)
    unfolding read_decimal
    decimal_back [] n rest e = absurd (never e)
    decimal_back (b ∷ s) n rest e =
        by_test (eqb b 48)
        (λ z. let same : 0 ≡ n = cc in (omega arith, λ l. cc (eqb-true b 48 z, digits_one k 0 s (omega arith))))
        (λ z. by_test (is_digit b)
        (λ d.
        let p = digit_back 0 b n s rest d (rw (z, d) at e) in
        let w = digits_back (10 * 0 + (b - 48)) s n rest p.0 p.1 in
        let digit = digit_range b d in
        let ne = eqb-false b 48 z in
        let front : 48 + (10 * 0 + (b - 48)) ≡ b = omega arith in
        (w.0, λ l. cc (digits_one k (10 * 0 + (b - 48)) s (omega arith), w.1 (omega arith) l)))
        (λ d. absurd (never (rw (z, d) at e))))

    pub length_back : (e : ℕ) (s : List ℕ) (n : ℕ) (rest : List ℕ) → read_length top e s ≡ found n rest → (n ≤ top) × (top < 10 ^ suc k → s ≡ digits_of k n (e ∷ rest))
    length_back e s n rest h = decimal_back s n (e ∷ rest) (ended_back e (read_decimal top s) n rest h)

pub length_within : (top e : ℕ) (s : List ℕ) (n : ℕ) (rest : List ℕ) → read_length top e s ≡ found n rest → n ≤ top
length_within top e s n rest h = (length_back top 0 e s n rest h).0

-- ---- the numbers of the register text
pub write_number : (e : ℕ) (s : List ℕ) (n : ℕ) (rest : List ℕ) → read_number e s ≡ found n rest → (n ≤ 65535) × (s ≡ decimal_of n (e ∷ rest))
write_number e s n rest h = unfold decimal_of in let w = length_back 65535 4 e s n rest h in (w.0, w.1 (omega arith))
