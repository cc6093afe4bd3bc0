-- An answer of each shape, one that does not fit its list, and refusals, computed. Assumes nothing.
use Rattle.basis.proofs.Prelude.{◌≡◌, refl, ℕ, List, [], ◌++◌, ◌∷◌, map}
use Rattle.fields.specs.Fields.{digits_of, decimal_of, numbers_text}
use Rattle.register.specs.Text.Register.{bad}
use Rattle.model.specs.{declared.{Call.TheVariants.{Write, Ask}, Question.TheVariants.Days}, Model.Answer}
use Rattle.outcomes.specs.declared.Outcome.{Outcome}
use Rattle.replies.specs.{declared.Shape.{Shape, TheVariants.{Ok, Text, Listed, Several, Ticked}}, Replies.{ok_text, refused_word, listed_word, ticked_word, text_word, dash, refused_text, refused_line, listed_text, dashed_text, several_text, ticked_text, written_text, shape_text, call_text, reading_text}, Sending.{fits_in, reply_text}}

-- two numbers with one comparison and six days ticked, and a text of three bytes, each in a longer list
abbrev answer : Answer
answer = record { refusal = 0; count = 2; comparisons = 1; length = 3; ticked = 6; numbers = 7 ∷ 8 ∷ 9 ∷ []; text = 65 ∷ 66 ∷ 67 ∷ 68 ∷ [] }

abbrev table : List (Shape × List ℕ)
table =
    (Ok, ok_text)
    -- `text` 3 LF `ABC`
    ∷ (Text, text_word ++ (51 ∷ 10 ∷ 65 ∷ 66 ∷ 67 ∷ []))
    -- `listed` 2 1 7 8
    ∷ (Listed, listed_word ++ (50 ∷ 9 ∷ 49 ∷ 9 ∷ 55 ∷ 9 ∷ 56 ∷ 10 ∷ []))
    -- `listed` 2 `-` 7 8
    ∷ (Several, listed_word ++ (50 ∷ 9 ∷ dash ∷ 9 ∷ 55 ∷ 9 ∷ 56 ∷ 10 ∷ []))
    -- `ticked` 6 2 `-` 7 8
    ∷ (Ticked, ticked_word ++ (54 ∷ 9 ∷ 50 ∷ 9 ∷ dash ∷ 9 ∷ 55 ∷ 9 ∷ 56 ∷ 10 ∷ []))
    ∷ []

pub shapes_shown : map (λ x. shape_text x.0 answer) table ≡ map (λ x. x.1) table
unfolding shape_text listed_text dashed_text several_text ticked_text written_text numbers_text decimal_of digits_of
shapes_shown = refl

-- two numbers told
abbrev outcome : Outcome
outcome = record { refusal = 0; count = 2; comparisons = 1; length = 0; ticked = 0 }

-- with a list of that many `listed` 2 `-` 7 8, and with a list of one nothing
pub fitting_put : (reply_text (Ask Days) outcome (7 ∷ 8 ∷ []) [] ≡ listed_word ++ (50 ∷ 9 ∷ dash ∷ 9 ∷ 55 ∷ 9 ∷ 56 ∷ 10 ∷ [])) × (reply_text (Ask Days) outcome (7 ∷ []) [] ≡ [])
unfolding reply_text fits_in call_text shape_text dashed_text several_text numbers_text decimal_of digits_of
fitting_put = (refl, refl)

-- `refused` 6, and of a reading `refused` 13 4
pub refusals_shown : (call_text Write (record { refusal = 6; count = 0; comparisons = 0; length = 0; ticked = 0; numbers = []; text = [] }) ≡ refused_word ++ (54 ∷ 10 ∷ []))
    × (reading_text (bad 13 4) ≡ refused_word ++ (49 ∷ 51 ∷ 9 ∷ 52 ∷ 10 ∷ []))
unfolding call_text refused_text reading_text refused_line decimal_of digits_of
refusals_shown = (refl, refl)
