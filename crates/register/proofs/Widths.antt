-- How long a written text is. Assumes nothing.
use Rattle.register.proofs.Names.{Each, Grade, List, Reading, Sound, Spell, Urgency, [], ◌*◌, ◌+◌, ◌∷◌, ◌≤◌, arith, binary32, decimal_width, decimal_of, entered, hex_width, length, line_text, short_width, text_onto, to_bits, urgency_text, ℕ}

pub urgency_width : (u : Urgency) (rest : List ℕ) → length (urgency_text u rest) ≤ 11 + length rest
urgency_width (Grade g) rest = omega (arith, decimal_width g (10 ∷ rest))
urgency_width (Reading x) rest = omega (arith, hex_width 8 (to_bits binary32 x) (10 ∷ rest))

-- four numbers, each of at most five digits and a tab, the days of at most d, and the urgency
line_within : (d : ℕ) (s : Spell) → ((r : List ℕ) → length (decimal_of s.first r) ≤ d + length r) → ((r : List ℕ) → length (decimal_of s.last r) ≤ d + length r)
    → (rest : List ℕ) → length (line_text s rest) ≤ 25 + d + d + length rest
unfolding line_text
line_within d s f l rest =
    let t4 = urgency_text s.urgency rest in
    let t3 = decimal_of s.last (9 ∷ t4) in
    let t2 = decimal_of s.first (9 ∷ t3) in
    let t1 = decimal_of s.candidate (9 ∷ t2) in
    omega (arith, decimal_width s.number (9 ∷ t1), decimal_width s.candidate (9 ∷ t2), f (9 ∷ t3), l (9 ∷ t4), urgency_width s.urgency rest)

-- the text of any list
pub text_width : (l : List Spell) → length (text_onto l []) ≤ 35 * length l
unfolding text_onto
text_width [] = omega arith
text_width (s ∷ l) = omega (arith, line_within 5 s (decimal_width s.first) (decimal_width s.last) (text_onto l []), text_width l)

-- and that of a list of sound spells: the days of a spell that passes the checks 1 to 5 have at most four digits
pub sound_width : (l : List Spell) → Each Sound l → length (text_onto l []) ≤ 33 * length l
unfolding text_onto Each
sound_width [] g = omega arith
sound_width (s ∷ l) g =
    let e = entered s g.0.entered in
    let one = line_within 4 s (λ r. short_width s.first r (omega (arith, e.first_day))) (λ r. short_width s.last r (omega (arith, e.last_day_fits))) in
    omega (arith, one (text_onto l []), sound_width l g.1)
