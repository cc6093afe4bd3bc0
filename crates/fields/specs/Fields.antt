-- The fields of a text: decimals and hex digits, each ended by a byte (document 01, "Register text"). Bytes are numbers:
-- 48 to 57 are the digits, 65 to 70 the letters A to F. Assumes nothing.
use Rattle.std.specs.Prelude.{ℕ, zero, suc, ◌+◌, ◌-◌, ◌*◌, ◌/◌, ◌%◌, Bool, ◌&&◌, cond, List, [], ◌∷◌, leb, ltb, eqb, length, get_or}

-- ---- Writing. Each field is put in front of the text that follows.

-- a single byte
abbrev pub byte_text : ℕ → List ℕ → List ℕ
byte_text b rest = b ∷ rest

-- a number of at most k + 1 digits, with no leading zero
unfoldable pub digits_of : ℕ → ℕ → List ℕ → List ℕ
digits_of zero n rest = (48 + n) ∷ rest
digits_of (suc k) n rest = cond (ltb n 10) ((48 + n) ∷ rest) (digits_of k (n / 10) ((48 + n % 10) ∷ rest))

-- a decimal: a number up to 65,535 has at most five digits
unfoldable pub decimal_of : ℕ → List ℕ → List ℕ
decimal_of n rest = digits_of 4 n rest

-- a decimal and the byte e that ends it
abbrev pub number_text : ℕ → ℕ → List ℕ → List ℕ
number_text n e rest = decimal_of n (e ∷ rest)

-- the same of a number of up to 64 bits, which has at most twenty digits
abbrev pub wide_text : ℕ → ℕ → List ℕ → List ℕ
wide_text n e rest = digits_of 19 n (e ∷ rest)

-- the byte after a decimal that so many others follow: a tab, or LF after the last
abbrev pub end_before : ℕ → ℕ
end_before zero = 10
end_before (suc k) = 9

-- decimals parted by tabs, the last of them ended by LF
unfoldable pub numbers_text : List ℕ → List ℕ → List ℕ
numbers_text [] rest = rest
numbers_text (n ∷ ns) rest = number_text n (end_before (length ns)) (numbers_text ns rest)

-- a digit 0-9 A-F
unfoldable pub hex_digit : ℕ → ℕ
hex_digit d = cond (ltb d 10) (48 + d) (55 + d)

-- the last k hex digits of n, highest first
unfoldable pub hex_of : ℕ → ℕ → List ℕ → List ℕ
hex_of zero n rest = rest
hex_of (suc k) n rest = hex_of k (n / 16) (hex_digit (n % 16) ∷ rest)

-- the eight hex digits of 32 bits and the byte e that ends them
abbrev pub bits_text : ℕ → ℕ → List ℕ → List ℕ
bits_text n e rest = hex_of 8 n (e ∷ rest)

-- ---- Reading. Each reader gives a value and the text after it, or finds that the field can't be read.

pub data Found (A : Type 0) : Type 0 where
  found : A → List ℕ → Found A
  unreadable : Found A

-- the next field is read after a value; a field that can't be read ends the reading
abbrev pub onward : {A B : Type 0} → Found A → (A → List ℕ → Found B) → Found B
onward (found a rest) f = f a rest
onward unreadable f = unreadable

-- the byte b stands at the place `at` of a text
abbrev pub is_at : List ℕ → ℕ → ℕ → Bool
is_at text at b = ltb at (length text) && eqb (get_or text at 0) b

-- the byte e, which is passed
unfoldable pub passed : {A : Type 0} → ℕ → A → List ℕ → Found A
passed e a [] = unreadable
passed e a (b ∷ rest) = cond (eqb b e) (found a rest) unreadable

abbrev pub is_digit : ℕ → Bool
is_digit b = leb 48 b && leb b 57

-- digits, v read so far; a number above the limit can't be read
unfoldable pub read_digits : ℕ → ℕ → List ℕ → Found ℕ
read_digits limit v [] = found v []
read_digits limit v (b ∷ s) =
    cond (is_digit b)
    (cond (leb (10 * v + (b - 48)) limit) (read_digits limit (10 * v + (b - 48)) s) unreadable)
    (found v (b ∷ s))

-- a decimal: "0", or digits that do not begin with it
unfoldable pub read_decimal : ℕ → List ℕ → Found ℕ
read_decimal limit [] = unreadable
read_decimal limit (b ∷ s) =
    cond (eqb b 48) (found 0 s) (cond (is_digit b) (read_digits limit 0 (b ∷ s)) unreadable)

-- a decimal up to a limit and the byte e that ends it
abbrev pub read_length : ℕ → ℕ → List ℕ → Found ℕ
read_length limit e s = onward (read_decimal limit s) (passed e)

-- a number is such a decimal, 0 to 65,535
abbrev pub read_number : ℕ → List ℕ → Found ℕ
read_number e s = read_length 65535 e s

-- the value of a digit 0-9 A-F, 16 for any other byte
unfoldable pub hex_value : ℕ → ℕ
hex_value b = cond (is_digit b) (b - 48) (cond (leb 65 b && leb b 70) (b - 55) 16)

-- k hex digits, v read so far
unfoldable pub read_hex : ℕ → ℕ → List ℕ → Found ℕ
read_hex zero v s = found v s
read_hex (suc k) v [] = unreadable
read_hex (suc k) v (b ∷ s) = cond (ltb (hex_value b) 16) (read_hex k (16 * v + hex_value b) s) unreadable

-- eight hex digits and the byte e that ends them
abbrev pub read_bits : ℕ → List ℕ → Found ℕ
read_bits e s = onward (read_hex 8 0 s) (passed e)

-- sixteen, of a mask
abbrev pub read_mask : ℕ → List ℕ → Found ℕ
read_mask e s = onward (read_hex 16 0 s) (passed e)
