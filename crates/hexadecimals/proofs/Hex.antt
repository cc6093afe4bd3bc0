-- Hex digits are read as they were written, and what is read is what is written: k digits are those of a number below 16 ^ k. Assumes nothing.
use Prim.Native.Nat.{◌^◌}
use native.Mathlib.Nat.{pow-le-pow_right}
use Rattle.basis.proofs.Prelude.{◌∙◌, ◌≡◌, sym, ◌%◌, ◌*◌, ◌+◌, ◌-◌, ◌/◌, ◌<◌, ◌≤◌, suc, zero, ℕ, List, [], ◌∷◌, ◌&&◌, true, leb, ltb, add-one, zero-add, arith, le-leb, le-ltb, leb-true, lt-leb, lt-ltb, ltb-false, ltb-true, both, by_test}
use Rattle.fields.{specs.Fields.{found, is_digit, hex_digit, hex_of, hex_value, read_hex, read_bits}, proofs.Bytes.{never, digit_is, digit_range, ended_back}}

-- ---- one digit
pub letter_from : (b : ℕ) → leb 65 b && leb b 70 ≡ true → 65 ≤ b
letter_from b m = leb-true 65 b (both (leb 65 b) (leb b 70) m).0

value_digit : (d : ℕ) → d < 16 → hex_value (hex_digit d) ≡ d
unfolding hex_value hex_digit
value_digit d h = by_test (ltb d 10)
    (λ t. let l = ltb-true d 10 t in rw (t, digit_is (48 + d) (omega arith) (omega arith)) (omega arith))
    (λ t. let l = ltb-false d 10 t in
    rw (t, le-leb 48 (55 + d) (omega arith), lt-leb (55 + d) 57 (omega arith), le-leb 65 (55 + d) (omega arith), le-leb (55 + d) 70 (omega arith)) (omega arith))

digit_value : (b : ℕ) → hex_value b < 16 → hex_digit (hex_value b) ≡ b
unfolding hex_value hex_digit
digit_value b h = by_test (is_digit b)
    (λ d. let r = digit_range b d in rw (d, lt-ltb (b - 48) 10 (omega arith)) (omega arith))
    (λ d. by_test (leb 65 b && leb b 70)
    (λ m. let l = letter_from b m in rw (d, m, le-ltb (b - 55) 10 (omega arith)) (omega arith))
    (λ m. absurd (omega (arith, rw (d, m) at h))))

-- ---- the digits
-- one digit more than k, of at most 16, fits
module _ (digits k v d : ℕ) (few : digits ≤ 16) (h : k < digits) (l : v < 16 ^ k) (e : d < 16) where
  pub digit_fits : 16 * v + d < 18446744073709551616
  digit_fits = omega (arith, pow-le-pow_right {n = 16} (omega arith) {i = k} {j = 15} (omega arith))

  pub value_fits : 16 * v < 18446744073709551616
  value_fits = omega (arith, digit_fits)

  pub digit_limit : 16 * v + d < 16 ^ (k + 1)
  digit_limit = rw add-one (omega arith)

-- reading the k digits of n, and j more, is having read n
pub read_hex_lem : (k j n : ℕ) (rest : List ℕ) → n < 16 ^ k → read_hex (k + j) 0 (hex_of k n rest) ≡ read_hex j n rest
unfolding hex_of read_hex
read_hex_lem zero j n rest h = let none : n ≡ 0 = omega arith in rw (none, zero-add)
read_hex_lem (suc k) j n rest h =
    let turn : suc k + j ≡ k + suc j = omega arith in
    let back : 16 * (n / 16) + n % 16 ≡ n = omega arith in
    rw (turn, read_hex_lem k (suc j) (n / 16) (hex_digit (n % 16) ∷ rest) (omega arith), value_digit (n % 16) (omega arith), lt-ltb (n % 16) 16 (omega arith), back)

-- what j digits add to the k that were read
write_hex : (j k v : ℕ) (s : List ℕ) (n : ℕ) (rest : List ℕ) → v < 16 ^ k → read_hex j v s ≡ found n rest → (n < 16 ^ (k + j)) × (hex_of k v s ≡ hex_of (k + j) n rest)
unfolding read_hex hex_of
write_hex zero k v s n rest h e =
    let same : v ≡ n = cc in
    let more : k + 0 ≡ k = omega arith in
    (rw more (omega arith), cc)
write_hex (suc j) k v [] n rest h e = absurd (never e)
write_hex (suc j) k v (b ∷ s) n rest h e = by_test (ltb (hex_value b) 16)
    (λ t.
    let d = ltb-true (hex_value b) 16 t in
    let turn : k + suc j ≡ suc k + j = omega arith in
    let up : (16 * v + hex_value b) / 16 ≡ v = omega arith in
    let low : (16 * v + hex_value b) % 16 ≡ hex_value b = omega arith in
    let later = write_hex j (suc k) (16 * v + hex_value b) s n rest (omega arith) (rw t at e) in
    (rw turn later.0, rw turn (sym (rw (up, low, digit_value b d)) ∙ later.1)))
    (λ t. absurd (never (rw t at e)))

pub write_bits : (e : ℕ) (s : List ℕ) (n : ℕ) (rest : List ℕ) → read_bits e s ≡ found n rest → (n < 4294967296) × (s ≡ hex_of 8 n (e ∷ rest))
write_bits e s n rest h = unfold hex_of in write_hex 8 0 0 s n (e ∷ rest) (omega arith) (ended_back e (read_hex 8 0 s) n rest h)
