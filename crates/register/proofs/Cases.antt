-- Document 01's Register A, read and written, and single refusals. Assumes nothing.
use Rattle.register.proofs.Names.{Grade, List, Reading, Spell, Urgency, [], ◌∷◌, ◌≡◌, bad, binary32, decimal_of, digits_of, earlier_of, follows, good, hex_digit, hex_of, hex_value, is_nan, line_answer, line_refusal, line_text, next_line, of_bits, passed, read_decimal, read_digits, read_hex, read_letter, read_line, read_lines, read_text, read_urgency, read_value, refl, stands, text_onto, to_bits, write_all, ℕ}

abbrev spell : ℕ → ℕ → ℕ → ℕ → Urgency → Spell
spell n c f l u = record { number = n; candidate = c; first = f; last = l; urgency = u }

abbrev reading : ℕ → Urgency
reading n = Reading (of_bits binary32 n)

-- Register A, line by line
abbrev text : List ℕ
text =
    49 ∷ 49 ∷ 9 ∷ 55 ∷ 9 ∷ 49 ∷ 9 ∷ 49 ∷ 48 ∷ 9 ∷ 71 ∷ 9 ∷ 50 ∷ 10
    ∷ 49 ∷ 50 ∷ 9 ∷ 56 ∷ 9 ∷ 51 ∷ 9 ∷ 52 ∷ 9 ∷ 67 ∷ 9 ∷ 51 ∷ 70 ∷ 56 ∷ 48 ∷ 48 ∷ 48 ∷ 48 ∷ 48 ∷ 10
    ∷ 49 ∷ 52 ∷ 9 ∷ 57 ∷ 9 ∷ 53 ∷ 9 ∷ 54 ∷ 9 ∷ 71 ∷ 9 ∷ 52 ∷ 10
    ∷ 49 ∷ 51 ∷ 9 ∷ 57 ∷ 9 ∷ 53 ∷ 9 ∷ 56 ∷ 9 ∷ 71 ∷ 9 ∷ 49 ∷ 10
    ∷ 49 ∷ 53 ∷ 9 ∷ 55 ∷ 9 ∷ 55 ∷ 9 ∷ 49 ∷ 50 ∷ 9 ∷ 67 ∷ 9 ∷ 48 ∷ 48 ∷ 48 ∷ 48 ∷ 48 ∷ 48 ∷ 48 ∷ 48 ∷ 10
    ∷ 49 ∷ 54 ∷ 9 ∷ 53 ∷ 9 ∷ 57 ∷ 9 ∷ 57 ∷ 9 ∷ 71 ∷ 9 ∷ 51 ∷ 10 ∷ []

abbrev register : List Spell
register =
    spell 11 7 1 10 (Grade 2)
    ∷ spell 12 8 3 4 (reading 0x3F80_0000)
    ∷ spell 14 9 5 6 (Grade 4)
    ∷ spell 13 9 5 8 (Grade 1)
    ∷ spell 15 7 7 12 (reading 0)
    ∷ spell 16 5 9 9 (Grade 3)
    ∷ []

a_written : write_all register ≡ text
unfolding of_bits to_bits digits_of decimal_of hex_digit hex_of line_text text_onto
a_written = refl

-- Register A, the empty text, and what refuses a line
read :
    (read_text text ≡ good register)
    × (read_text [] ≡ good [])
    -- a leading zero
    × (read_text (48 ∷ 49 ∷ 9 ∷ 49 ∷ 9 ∷ 49 ∷ 9 ∷ 49 ∷ 9 ∷ 71 ∷ 9 ∷ 49 ∷ 10 ∷ []) ≡ bad 12 1)
    -- the last line without its LF
    × (read_text (49 ∷ 9 ∷ 49 ∷ 9 ∷ 49 ∷ 9 ∷ 49 ∷ 9 ∷ 71 ∷ 9 ∷ 49 ∷ []) ≡ bad 12 1)
    -- a number above 65,535
    × (read_text (54 ∷ 53 ∷ 53 ∷ 51 ∷ 54 ∷ 9 ∷ 49 ∷ 9 ∷ 49 ∷ 9 ∷ 49 ∷ 9 ∷ 71 ∷ 9 ∷ 49 ∷ 10 ∷ []) ≡ bad 12 1)
    -- a lower-case hex digit
    × (read_text (49 ∷ 9 ∷ 49 ∷ 9 ∷ 49 ∷ 9 ∷ 49 ∷ 9 ∷ 67 ∷ 9 ∷ 51 ∷ 102 ∷ 56 ∷ 48 ∷ 48 ∷ 48 ∷ 48 ∷ 48 ∷ 10 ∷ []) ≡ bad 12 1)
    -- minus zero
    × (read_text (49 ∷ 9 ∷ 49 ∷ 9 ∷ 49 ∷ 9 ∷ 49 ∷ 9 ∷ 67 ∷ 9 ∷ 56 ∷ 48 ∷ 48 ∷ 48 ∷ 48 ∷ 48 ∷ 48 ∷ 48 ∷ 10 ∷ []) ≡ bad 5 1)
    -- the same line twice: its number is taken, which is checked before its place
    × (read_text (49 ∷ 9 ∷ 49 ∷ 9 ∷ 49 ∷ 9 ∷ 49 ∷ 9 ∷ 71 ∷ 9 ∷ 49 ∷ 10 ∷ 49 ∷ 9 ∷ 49 ∷ 9 ∷ 49 ∷ 9 ∷ 49 ∷ 9 ∷ 71 ∷ 9 ∷ 49 ∷ 10 ∷ []) ≡ bad 6 2)
    -- a line that is not after the one before
    × (read_text (50 ∷ 9 ∷ 49 ∷ 9 ∷ 49 ∷ 9 ∷ 49 ∷ 9 ∷ 71 ∷ 9 ∷ 49 ∷ 10 ∷ 49 ∷ 9 ∷ 49 ∷ 9 ∷ 49 ∷ 9 ∷ 49 ∷ 9 ∷ 71 ∷ 9 ∷ 49 ∷ 10 ∷ []) ≡ bad 13 2)
unfolding is_nan of_bits to_bits earlier_of stands passed read_digits read_decimal hex_value read_hex read_letter read_value read_urgency read_line follows line_refusal line_answer next_line read_lines read_text
read = (refl, refl, refl, refl, refl, refl, refl, refl, refl)
