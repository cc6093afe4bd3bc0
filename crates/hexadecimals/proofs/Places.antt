-- What a reader of hex digits finds at a place of a text, as its tests say. Assumes nothing.
use Rattle.basis.proofs.Prelude.{◌∙◌, ◌≡◌, ◌*◌, ◌+◌, ◌-◌, ◌<◌, ◌≤◌, suc, ℕ, List, false, true, ltb, drop, get_or, length, arith, ltb-true, by_test}
use Rattle.std.specs.Prelude.{Option, Some, None}
use Rattle.fields.{specs.{Fields.{Found, onward, passed, hex_value, read_hex}, Answers.{Reads}}, proofs.Places.{here, past_end}}
use Rattle.hexadecimals.specs.Clauses.{value_of}

-- ---- a byte, by the value of its digit
digit_there : (b d : ℕ) → value_of b ≡ Some d → (hex_value b ≡ d) × (ltb (hex_value b) 16 ≡ true)
digit_there b d e = by_test (ltb (hex_value b) 16) (λ t. let f = rw t at e in (cc, t)) (λ t. let f = rw t at e in (cc, cc))

digit_none : (b : ℕ) → value_of b ≡ None → ltb (hex_value b) 16 ≡ false
digit_none b e = by_test (ltb (hex_value b) 16) (λ t. let f = rw t at e in cc) (λ t. t)

pub digit_small : (b d : ℕ) → value_of b ≡ Some d → d < 16
digit_small b d e = let p = digit_there b d e in let small = ltb-true (hex_value b) 16 p.1 in omega arith

-- ---- k of so many digits are read, v so far; x is what was to be read, and the byte `end` is to follow
module _ (s : List ℕ) (digits i k v end : ℕ) (x : Found ℕ) (e : x ≡ read_hex (digits - k) v (drop i s)) where
  pub hex_all : digits ≤ k → (r : Option (ℕ × ℕ)) → Reads s r (passed end v (drop i s)) → Reads s r (onward x (passed end))
  hex_all h r p = unfold read_hex in let none : digits - k ≡ 0 = omega arith in rw (e, none) p

  module _ (left : k < digits) where
    one : digits - k ≡ suc (digits - (k + 1))
    one = omega arith

    pub hex_past : length s ≤ i → Reads s None (onward x (passed end))
    hex_past h = unfold read_hex in rw (e, one, past_end s i h) (search)

    module _ (h : i < length s) where
      pub hex_none : value_of (get_or s i 0) ≡ None → Reads s None (onward x (passed end))
      hex_none n = unfold read_hex in rw (e, one, here s i h, digit_none (get_or s i 0) n) (search)

      pub hex_more : (d : ℕ) → value_of (get_or s i 0) ≡ Some d → x ≡ read_hex (digits - (k + 1)) (16 * v + d) (drop (i + 1) s)
      hex_more d is = unfold read_hex in let p = digit_there (get_or s i 0) d is in e ∙ rw (one, here s i h, p.1, p.0)
