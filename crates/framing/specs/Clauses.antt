-- The contracts of the private functions. Assumes nothing.
use Rattle.std.specs.Prelude.{ℕ, ◌≤◌, ◌≡◌, Option, Some, None, IfSome, List, [], ◌++◌, length, take, drop}
use Rattle.streams.specs.declared.Framed.{Framed}
use Rattle.streams.specs.Stream.{in_line, wants, settled}
use Rattle.streams.specs.Advancing.{Progress, going, next, after, progress_of, Within, Kept, line_in, text_in}

-- bytes are put after the first n of a list, as many as there is room for
pub record Keeps (into : List ℕ) (n : ℕ) (bytes : List ℕ) (r : ℕ) (into' : List ℕ) : Type 0 where
  pub sized : length into' ≡ length into
  pub within : r ≤ length into
  pub bytes_kept : take r into' ≡ take (length into) (take n into ++ bytes)
  pub rest : Kept r into into'

-- r is the place n of a list, or its end where it has fewer places: the same stands before it, and the same from it on
pub record PlaceIn (l : List ℕ) (n r : ℕ) : Type 0 where
  pub inside : r ≤ length l
  pub first : take r l ≡ take n l
  pub rest : drop r l ≡ drop n l

-- a line that is taken up to its LF, with the place after it, or not whole
abbrev pub taken_of : ℕ → Option ℕ → List ℕ → List ℕ → Progress
taken_of n (Some next) arrived line = after (settled (take n line) [] (wants (take n line))) (drop next arrived)
taken_of n None arrived line = going (in_line (take n line))

pub record TakesLine (n : ℕ) (arrived : List ℕ) (from : ℕ) (line : List ℕ) (r : ℕ × Option ℕ) (line' : List ℕ) : Type 0 where
  pub progress : taken_of r.0 r.1 arrived line' ≡ next (in_line (take n line)) (drop from arrived)
  pub within : r.0 ≤ 65537
  pub inside : IfSome r.1 (λ next. next ≤ length arrived)
  pub rest : Kept r.0 line line'

-- a text of which so many bytes are wanted, whatever line it comes after
pub record TakesText (n m wanted : ℕ) (arrived : List ℕ) (from : ℕ) (payload : List ℕ) (r : Framed) (payload' : List ℕ) : Type 0 where
  pub progress : (line : List ℕ) → progress_of r arrived line payload' ≡ after (settled (take n line) (take m payload) wanted) (drop from arrived)
  pub within : Within r (length arrived)
  pub line : line_in r ≡ n
  pub rest : Kept (text_in r) payload payload'
