-- What a reader of decimals finds at a place of a text, as its tests say. Assumes nothing.
use Rattle.decimals.proofs.Names.{Found, List, Reads, ◌*◌, ◌+◌, ◌-◌, ◌<◌, ◌∙◌, ◌≡◌, ◌≤◌, arith, drop, eq-eqb, false, found, get_or, here, is_digit, le-leb, length, answer_in, lt-leb, ne_eqb, onward, passed, past_end, read_decimal, read_digits, read_length, sym, true, unreadable, ℕ}
use Rattle.std.specs.Prelude.{Option, None}

-- the digits from the place i on, v read so far: x is what was to be read
module _ (s : List ℕ) (i top v : ℕ) (x : Found ℕ) (e : x ≡ read_digits top v (drop i s)) where
  pub digits_past : length s ≤ i → found v (drop (length s) s) ≡ x
  digits_past h = unfold read_digits in sym (e ∙ rw (past_end s i h, past_end s (length s) (omega arith)))

  module _ (h : i < length s) where
    pub digits_none : is_digit (get_or s i 0) ≡ false → found v (drop i s) ≡ x
    digits_none n = unfold read_digits in sym (e ∙ rw (here s i h, n))

    module _ (n : is_digit (get_or s i 0) ≡ true) where
      pub digits_above : top < 10 * v + (get_or s i 0 - 48) → unreadable ≡ x
      digits_above o = unfold read_digits in sym (e ∙ rw (here s i h, n, lt-leb _ top o))

      pub digits_more : 10 * v + (get_or s i 0 - 48) ≤ top → x ≡ read_digits top (10 * v + (get_or s i 0 - 48)) (drop (i + 1) s)
      digits_more o = unfold read_digits in e ∙ rw (here s i h, n, le-leb _ top o)

-- a decimal at the place i, which the byte `end` is to follow
module _ (s : List ℕ) (i top end : ℕ) where
  pub decimal_past : length s ≤ i → Reads s None (read_length top end (drop i s))
  decimal_past h = unfold read_decimal in rw (past_end s i h) (search)

  module _ (h : i < length s) where
    pub decimal_zero : get_or s i 0 ≡ 48 → (r : Option (ℕ × ℕ)) → Reads s r (passed end 0 (drop (i + 1) s)) → Reads s r (read_length top end (drop i s))
    decimal_zero z r p = unfold read_decimal in rw (here s i h, eq-eqb (get_or s i 0) 48 z) p

    module _ (z : get_or s i 0 ≡ 48 → ⊥) where
      pub decimal_none : is_digit (get_or s i 0) ≡ false → Reads s None (read_length top end (drop i s))
      decimal_none n = unfold read_decimal in rw (here s i h, ne_eqb (get_or s i 0) 48 z, n) (search)

      pub decimal_digits : is_digit (get_or s i 0) ≡ true → (v r : Option (ℕ × ℕ)) → answer_in s v ≡ read_digits top 0 (drop i s)
          → Reads s r (onward (answer_in s v) (passed end)) → Reads s r (read_length top end (drop i s))
      decimal_digits n v r e p = unfold read_decimal in rw (here s i h, ne_eqb (get_or s i 0) 48 z, n, ← here s i h, ← e) p
