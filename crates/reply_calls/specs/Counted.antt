-- The numbers of a question's answer, with the comparisons that it reports or none. Assumes nothing.
use Rattle.std.specs.Prelude.{ℕ, Option, Some, None, List, [], ◌∷◌, length}
use Rattle.fields.specs.Fields.{number_text, end_before, numbers_text}
use Rattle.register.specs.Text.{tab}
use Rattle.replies.specs.Replies.{bytes_text, dash}

-- the comparisons and the byte that ends them; `-` where none are reported
abbrev pub comparisons_text : Option ℕ → ℕ → List ℕ → List ℕ
comparisons_text (Some n) end = number_text n end
comparisons_text None end = bytes_text (dash ∷ end ∷ [])

-- the places that are asked for them
abbrev pub room_for : Option ℕ → ℕ
room_for (Some n) = 6
room_for None = 2

-- how many numbers there are, the comparisons, and the numbers
unfoldable pub counted_text : ℕ → Option ℕ → List ℕ → List ℕ
counted_text k comparisons ns = number_text k tab (comparisons_text comparisons (end_before (length ns)) (numbers_text ns []))
