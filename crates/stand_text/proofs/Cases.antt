-- Document 01's example: register A, and the text that the program `stand` prints of it, computed. Assumes nothing.
use Rattle.basis.proofs.Prelude.{◌≡◌, refl, ℕ, List, [], ◌∷◌}
use lib.Ieee.{binary32, of_bits}
use Rattle.spell.specs.declared.{Urgency.{Urgency, TheVariants.{Grade, Reading}}, Spell.Spell}
use Rattle.stabbing.specs.Tree.{below, keep, count, head, next, parent, child, left_sibling, last_child, fits_at, start, on_path, formula}
use Rattle.fields.specs.Fields.{digits_of, decimal_of, numbers_text}
use Rattle.model.specs.Questions.{filter, comparisons_of}
use Rattle.stand_text.specs.Report.{line_of, lines_of, text_of}

abbrev spell : ℕ → ℕ → ℕ → ℕ → Urgency → Spell
spell n c f l u = record { number = n; candidate = c; first = f; last = l; urgency = u }

abbrev register : List Spell
register =
    spell 11 7 1 10 (Grade 2)
    ∷ spell 12 8 3 4 (Reading (of_bits binary32 0x3F80_0000))
    ∷ spell 14 9 5 6 (Grade 4)
    ∷ spell 13 9 5 8 (Grade 1)
    ∷ spell 15 7 7 12 (Reading (of_bits binary32 0))
    ∷ spell 16 5 9 9 (Grade 3)
    ∷ []

-- a line for each of days 1 to 12, and none for the others
a_printed : text_of register ≡ (
    49 ∷ 9 ∷ 49 ∷ 9 ∷ 48 ∷ 9 ∷ 49 ∷ 49 ∷ 10
    ∷ 50 ∷ 9 ∷ 49 ∷ 9 ∷ 48 ∷ 9 ∷ 49 ∷ 49 ∷ 10
    ∷ 51 ∷ 9 ∷ 50 ∷ 9 ∷ 48 ∷ 9 ∷ 49 ∷ 49 ∷ 9 ∷ 49 ∷ 50 ∷ 10
    ∷ 52 ∷ 9 ∷ 50 ∷ 9 ∷ 48 ∷ 9 ∷ 49 ∷ 49 ∷ 9 ∷ 49 ∷ 50 ∷ 10
    ∷ 53 ∷ 9 ∷ 51 ∷ 9 ∷ 50 ∷ 9 ∷ 49 ∷ 49 ∷ 9 ∷ 49 ∷ 52 ∷ 9 ∷ 49 ∷ 51 ∷ 10
    ∷ 54 ∷ 9 ∷ 51 ∷ 9 ∷ 50 ∷ 9 ∷ 49 ∷ 49 ∷ 9 ∷ 49 ∷ 52 ∷ 9 ∷ 49 ∷ 51 ∷ 10
    ∷ 55 ∷ 9 ∷ 51 ∷ 9 ∷ 52 ∷ 9 ∷ 49 ∷ 49 ∷ 9 ∷ 49 ∷ 51 ∷ 9 ∷ 49 ∷ 53 ∷ 10
    ∷ 56 ∷ 9 ∷ 51 ∷ 9 ∷ 52 ∷ 9 ∷ 49 ∷ 49 ∷ 9 ∷ 49 ∷ 51 ∷ 9 ∷ 49 ∷ 53 ∷ 10
    ∷ 57 ∷ 9 ∷ 51 ∷ 9 ∷ 50 ∷ 9 ∷ 49 ∷ 49 ∷ 9 ∷ 49 ∷ 53 ∷ 9 ∷ 49 ∷ 54 ∷ 10
    ∷ 49 ∷ 48 ∷ 9 ∷ 50 ∷ 9 ∷ 50 ∷ 9 ∷ 49 ∷ 49 ∷ 9 ∷ 49 ∷ 53 ∷ 10
    ∷ 49 ∷ 49 ∷ 9 ∷ 49 ∷ 9 ∷ 49 ∷ 9 ∷ 49 ∷ 53 ∷ 10
    ∷ 49 ∷ 50 ∷ 9 ∷ 49 ∷ 9 ∷ 49 ∷ 9 ∷ 49 ∷ 53 ∷ 10 ∷ []
    )
unfolding below keep count head next parent child left_sibling last_child fits_at start on_path formula digits_of decimal_of numbers_text filter comparisons_of line_of lines_of
a_printed = refl

-- the last day has its line, and the day after it none
last_printed : text_of (spell 17 7 3999 4000 (Grade 1) ∷ []) ≡ (
    51 ∷ 57 ∷ 57 ∷ 57 ∷ 9 ∷ 49 ∷ 9 ∷ 48 ∷ 9 ∷ 49 ∷ 55 ∷ 10
    ∷ 52 ∷ 48 ∷ 48 ∷ 48 ∷ 9 ∷ 49 ∷ 9 ∷ 48 ∷ 9 ∷ 49 ∷ 55 ∷ 10 ∷ []
    )
unfolding below keep count head next parent child left_sibling last_child fits_at start on_path formula digits_of decimal_of numbers_text filter comparisons_of line_of lines_of
last_printed = refl
