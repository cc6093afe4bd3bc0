-- How long a written field is. Assumes nothing.
use Prim.Native.Nat.{◌^◌}
use Rattle.basis.proofs.Prelude.{◌≡◌, ap, ◌%◌, ◌*◌, ◌+◌, ◌/◌, ◌<◌, ◌≤◌, suc, zero, ℕ, List, [], ◌∷◌, cond, ltb, length, arith, lt-ltb, by_cases}
use Rattle.fields.specs.Fields.{digits_of, decimal_of, number_text, wide_text, end_before, numbers_text, hex_digit, hex_of, bits_text}

-- ---- a number below 10, 100, ..: one place more than needed changes nothing
pub more : (k n : ℕ) (rest : List ℕ) → n < 10 ^ suc k → digits_of (suc k) n rest ≡ digits_of k n rest
unfolding digits_of
more zero n rest h = rw (lt-ltb n 10 h)
more (suc k) n rest h = ap (cond (ltb n 10) ((48 + n) ∷ rest)) (more k (n / 10) ((48 + n % 10) ∷ rest) (omega arith))

-- ---- widths
pub digits_width : (k n : ℕ) (rest : List ℕ) → (1 + length rest ≤ length (digits_of k n rest)) × (length (digits_of k n rest) ≤ suc k + length rest)
unfolding digits_of
digits_width zero n rest = omega arith
digits_width (suc k) n rest =
    let h = digits_width k (n / 10) ((48 + n % 10) ∷ rest) in
    by_cases (λ (l : List ℕ). (1 + length rest ≤ length l) × (length l ≤ suc (suc k) + length rest)) (ltb n 10) (λ _. omega arith) (λ _. omega arith)

-- a decimal has one to five digits, and below 10,000 at most four
pub decimal_wide : (n : ℕ) (rest : List ℕ) → 1 + length rest ≤ length (decimal_of n rest)
decimal_wide n rest = unfold decimal_of in (digits_width 4 n rest).0

pub decimal_width : (n : ℕ) (rest : List ℕ) → length (decimal_of n rest) ≤ 5 + length rest
decimal_width n rest = unfold decimal_of in (digits_width 4 n rest).1

-- with the byte that ends it, so many places are taken as its writer asks for
pub number_width : (n e : ℕ) (rest : List ℕ) → length (number_text n e rest) ≤ 6 + length rest
number_width n e rest = omega (arith, decimal_width n (e ∷ rest))

pub wide_width : (n e : ℕ) (rest : List ℕ) → length (wide_text n e rest) ≤ 21 + length rest
wide_width n e rest = omega (arith, (digits_width 19 n (e ∷ rest)).1)

pub short_width : (n : ℕ) (rest : List ℕ) → n < 10000 → length (decimal_of n rest) ≤ 4 + length rest
short_width n rest h = unfold decimal_of in rw (more 3 n rest h) (digits_width 3 n rest).1

-- each of many decimals takes at most six places
pub numbers_width : (ns rest : List ℕ) → length (numbers_text ns rest) ≤ 6 * length ns + length rest
unfolding numbers_text
numbers_width [] rest = omega arith
numbers_width (n ∷ ns) rest = omega (arith, decimal_width n (end_before (length ns) ∷ numbers_text ns rest), numbers_width ns rest)

pub numbers_wide : (ns rest : List ℕ) → length rest ≤ length (numbers_text ns rest)
unfolding numbers_text
numbers_wide [] rest = omega arith
numbers_wide (n ∷ ns) rest = omega (arith, decimal_wide n (end_before (length ns) ∷ numbers_text ns rest), numbers_wide ns rest)

pub hex_width : (k n : ℕ) (rest : List ℕ) → length (hex_of k n rest) ≡ k + length rest
unfolding hex_of
hex_width zero n rest = omega arith
hex_width (suc k) n rest = let h = hex_width k (n / 16) (hex_digit (n % 16) ∷ rest) in omega arith

pub bits_width : (n e : ℕ) (rest : List ℕ) → length (bits_text n e rest) ≤ 9 + length rest
bits_width n e rest = omega (arith, hex_width 8 n (e ∷ rest))
