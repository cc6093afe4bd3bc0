-- Worked examples of each field, read and written. Assumes nothing.
use Rattle.basis.proofs.Prelude.{◌≡◌, refl, [], ◌∷◌, true, false}
use Rattle.fields.specs.{Fields.{byte_text, is_at, digits_of, decimal_of, number_text, wide_text, numbers_text, hex_digit, hex_of, bits_text, found, unreadable, passed, read_digits, read_decimal, read_length, read_number, hex_value, read_hex, read_bits, read_mask}, Answers.{put_at, put_of}}

-- single bytes: at a place, at another, past the end; put where there is a place before, and where there is none
single :
    (is_at (7 ∷ 9 ∷ []) 1 9 ≡ true)
    × (is_at (7 ∷ 9 ∷ []) 0 9 ≡ false)
    × (is_at (7 ∷ 9 ∷ []) 2 0 ≡ false)
    × (put_at 1 (byte_text 7) (1 ∷ 2 ∷ []) 1 ≡ 0)
    × (put_of 1 (byte_text 7) (1 ∷ 2 ∷ []) 1 ≡ 7 ∷ 2 ∷ [])
    × (put_at 1 (byte_text 7) (1 ∷ 2 ∷ []) 0 ≡ 0)
    × (put_of 1 (byte_text 7) (1 ∷ 2 ∷ []) 0 ≡ 1 ∷ 2 ∷ [])
single = (refl, refl, refl, refl, refl, refl, refl)

written :
    (number_text 0 9 [] ≡ 48 ∷ 9 ∷ [])
    × (number_text 65535 10 [] ≡ 54 ∷ 53 ∷ 53 ∷ 51 ∷ 53 ∷ 10 ∷ [])
    × (wide_text 4294967295 10 [] ≡ 52 ∷ 50 ∷ 57 ∷ 52 ∷ 57 ∷ 54 ∷ 55 ∷ 50 ∷ 57 ∷ 53 ∷ 10 ∷ [])
    -- a tab between, LF after the last
    × (numbers_text (7 ∷ 10 ∷ []) [] ≡ 55 ∷ 9 ∷ 49 ∷ 48 ∷ 10 ∷ [])
    × (bits_text 0x3F80_00AF 10 [] ≡ 51 ∷ 70 ∷ 56 ∷ 48 ∷ 48 ∷ 48 ∷ 65 ∷ 70 ∷ 10 ∷ [])
unfolding digits_of decimal_of numbers_text hex_digit hex_of
written = (refl, refl, refl, refl, refl)

read :
    (read_number 9 (48 ∷ 9 ∷ 7 ∷ []) ≡ found 0 (7 ∷ []))
    × (read_number 9 (54 ∷ 53 ∷ 53 ∷ 51 ∷ 53 ∷ 9 ∷ []) ≡ found 65535 [])
    -- above the limit, a leading zero, no digit, another end, no end
    × (read_number 9 (54 ∷ 53 ∷ 53 ∷ 51 ∷ 54 ∷ 9 ∷ []) ≡ unreadable)
    × (read_number 9 (48 ∷ 49 ∷ 9 ∷ []) ≡ unreadable)
    × (read_number 9 (9 ∷ []) ≡ unreadable)
    × (read_number 9 (49 ∷ 10 ∷ []) ≡ unreadable)
    × (read_number 9 (49 ∷ []) ≡ unreadable)
    -- another limit
    × (read_length 131072 10 (49 ∷ 51 ∷ 49 ∷ 48 ∷ 55 ∷ 50 ∷ 10 ∷ []) ≡ found 131072 [])
    × (read_length 131072 10 (49 ∷ 51 ∷ 49 ∷ 48 ∷ 55 ∷ 51 ∷ 10 ∷ []) ≡ unreadable)
    × (read_bits 10 (51 ∷ 70 ∷ 56 ∷ 48 ∷ 48 ∷ 48 ∷ 65 ∷ 70 ∷ 10 ∷ []) ≡ found 0x3F80_00AF [])
    × (read_mask 10 (56 ∷ 48 ∷ 48 ∷ 48 ∷ 48 ∷ 48 ∷ 48 ∷ 48 ∷ 48 ∷ 48 ∷ 48 ∷ 48 ∷ 48 ∷ 48 ∷ 48 ∷ 49 ∷ 10 ∷ []) ≡ found 0x8000_0000_0000_0001 [])
    -- a digit too few
    × (read_mask 10 (56 ∷ 48 ∷ 48 ∷ 48 ∷ 48 ∷ 48 ∷ 48 ∷ 48 ∷ 48 ∷ 48 ∷ 48 ∷ 48 ∷ 48 ∷ 48 ∷ 49 ∷ 10 ∷ []) ≡ unreadable)
unfolding passed read_digits read_decimal hex_value read_hex
read = (refl, refl, refl, refl, refl, refl, refl, refl, refl, refl, refl, refl)
