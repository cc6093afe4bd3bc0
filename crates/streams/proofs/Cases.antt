-- A stream, computed. Assumes nothing.
use Rattle.basis.proofs.Prelude.{◌≡◌, refl, ℕ, List, [], ◌++◌, ◌∷◌}
use Rattle.fields.specs.Fields.{passed, read_digits, read_decimal}
use Rattle.requests.specs.{Words.{table, begins, head_of}, Requests.{asked_by, asked_of, following}}
use Rattle.streams.specs.Stream.{kept, wants, settled, line_fed, feed, onward, cut_from, cut}

-- `publish`
abbrev publish_line : List ℕ
publish_line = 112 ∷ 117 ∷ 98 ∷ 108 ∷ 105 ∷ 115 ∷ 104 ∷ 10 ∷ []

-- `read 3`
abbrev read_line : List ℕ
read_line = 114 ∷ 101 ∷ 97 ∷ 100 ∷ 9 ∷ 51 ∷ 10 ∷ []

-- three bytes, LF among them
abbrev three : List ℕ
three = 97 ∷ 10 ∷ 99 ∷ []

-- two requests, the second with the bytes after it, and a third that is not whole, `da`
pub stream_cut : cut (publish_line ++ read_line ++ three ++ 100 ∷ 97 ∷ []) ≡ record { line = publish_line; payload = [] } ∷ record { line = read_line; payload = three } ∷ []
unfolding kept following wants settled line_fed feed onward cut_from table begins head_of asked_by asked_of passed read_digits read_decimal
stream_cut = refl
