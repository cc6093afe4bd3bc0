-- The rows of the program's table, and what they say of a line. Assumes nothing.
use Rattle.std.specs.Prelude.{ℕ, List, [], ◌∷◌, map}
use Rattle.std.specs.Borrow.{Bor}
use Rattle.requests.specs.declared.Layout.{Layout}
use Rattle.requests.specs.declared.Layout.TheVariants.{Unknown}
use Rattle.requests.specs.declared.Head.{Head}
use Rattle.requests.specs.Words.{head_or}

-- the words and layouts that they refer to
abbrev pub rows_of : List (Bor (List ℕ) × Layout) → List (List ℕ × Layout)
rows_of rows = map (λ row. (row.0.now, row.1)) rows

-- the head of a line by rows, the first whose word the line begins with
unfoldable pub head_among : List (List ℕ × Layout) → List ℕ → Head
head_among [] s = record { layout = Unknown; at = 0 }
head_among (row ∷ rows) s = head_or row.0 row.1 s (head_among rows s)
