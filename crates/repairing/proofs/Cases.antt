-- A damaged text, repaired by computation; the order of the last two checks. Assumes nothing.
use Rattle.basis.proofs.Prelude.{◌≡◌, refl, ℕ, List, [], ◌∷◌, length, replicate}
use Rattle.repairing.proofs.Names.{insert_by, sorted_by, Grade, Spell, earlier_of, stands, found, digits_of, decimal_of, passed, read_digits, read_decimal, line_text, text_onto, read_letter, read_value, read_urgency, read_line, HostRepaired, later_lines, lines_of, verdict, keeping, kept_after, verdicts_after, remarks_from, places_of, some_before, displaced_in, repaired_text, remarks_of, fitting, repair_refusal, repair_refused, repair_given, either}

-- line 1 stands; line 2 is empty; line 3 is backwards, and its number is not taken; line 4 has that number, and belongs before line 1; the
-- number of line 5 is taken; line 6 has no LF
abbrev damaged : List ℕ
damaged =
    50 ∷ 9 ∷ 49 ∷ 9 ∷ 53 ∷ 9 ∷ 57 ∷ 9 ∷ 71 ∷ 9 ∷ 49 ∷ 10
    ∷ 10
    ∷ 51 ∷ 9 ∷ 49 ∷ 9 ∷ 57 ∷ 9 ∷ 53 ∷ 9 ∷ 71 ∷ 9 ∷ 49 ∷ 10
    ∷ 51 ∷ 9 ∷ 49 ∷ 9 ∷ 49 ∷ 9 ∷ 50 ∷ 9 ∷ 71 ∷ 9 ∷ 49 ∷ 10
    ∷ 50 ∷ 9 ∷ 49 ∷ 9 ∷ 49 ∷ 9 ∷ 49 ∷ 9 ∷ 71 ∷ 9 ∷ 49 ∷ 10
    ∷ 49 ∷ 9 ∷ 49 ∷ 9 ∷ 55 ∷ 9 ∷ 55 ∷ 9 ∷ 71 ∷ 9 ∷ 49 ∷ []

abbrev repaired : List ℕ
repaired =
    51 ∷ 9 ∷ 49 ∷ 9 ∷ 49 ∷ 9 ∷ 50 ∷ 9 ∷ 71 ∷ 9 ∷ 49 ∷ 10
    ∷ 50 ∷ 9 ∷ 49 ∷ 9 ∷ 53 ∷ 9 ∷ 57 ∷ 9 ∷ 71 ∷ 9 ∷ 49 ∷ 10 ∷ []

abbrev remarks : List ℕ
remarks = 2 ∷ 12 ∷ 3 ∷ 4 ∷ 5 ∷ 6 ∷ 6 ∷ 12 ∷ []

abbrev given : HostRepaired
given = record { refusal = 0; line = 0; length = 24; dropped = 4; displaced = 1 }

-- with room, and where the text's list or that of the remarks is short by a place
worked :
    (repaired_text damaged ≡ repaired)
    × (places_of (remarks_of damaged) ≡ remarks)
    × (either damaged 24 8 (repair_given damaged) repair_refused ≡ given)
    × (either damaged 23 8 (repair_given damaged) repair_refused ≡ repair_refused 11)
    × (either damaged 24 7 (repair_given damaged) repair_refused ≡ repair_refused 11)
unfolding insert_by sorted_by earlier_of stands digits_of decimal_of passed read_digits read_decimal line_text text_onto read_letter read_value read_urgency read_line later_lines lines_of verdict keeping kept_after verdicts_after remarks_from places_of some_before displaced_in fitting repair_refusal
worked = (refl, refl, refl, refl, refl)

-- nothing comes of nothing, and of LFs alone only remarks
bare :
    (repaired_text [] ≡ [])
    × (places_of (remarks_of []) ≡ [])
    × (repaired_text (10 ∷ 10 ∷ []) ≡ [])
    × (places_of (remarks_of (10 ∷ 10 ∷ [])) ≡ 1 ∷ 12 ∷ 2 ∷ 12 ∷ [])
bare = unfold sorted_by text_onto read_decimal read_line later_lines lines_of verdict keeping kept_after verdicts_after remarks_from places_of in (refl, refl, refl, refl)

abbrev spell : ℕ → Spell
spell n = record { number = n; candidate = 1; first = 1; last = 1; urgency = Grade 1 }

-- 1,024 are kept: a number that is taken meets 6, another one 8; of 1,023 it meets nothing
full :
    (verdict (replicate 1024 (spell 7)) (found (spell 7) []) ≡ 6)
    × (verdict (replicate 1024 (spell 7)) (found (spell 8) []) ≡ 8)
    × (verdict (replicate 1023 (spell 7)) (found (spell 8) []) ≡ 0)
full = unfold stands verdict in (refl, refl, refl)
