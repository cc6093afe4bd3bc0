-- What the builder of the index promises, for any columns and any n. Assumes nothing.
use Rattle.std.specs.Prelude.{ℕ, Bool, ◌&&◌, cond, List, ◌≡◌, leb, take}
use Rattle.stabbing.specs.Index.{capacity, rows_ok, block_of}

-- the first n words of the columns of days are rows that can be published
abbrev pub publishable : List ℕ → List ℕ → ℕ → Bool
publishable first last n = leb n capacity && rows_ok (take n first) (take n last)

-- the answer says whether they are; if so the block becomes the block of these rows, every word of it, and else it is kept
pub record Builds (number first last : List ℕ) (n : ℕ) (entry : List ℕ) (r : Bool) (exit : List ℕ) : Type 0 where
  pub answer : r ≡ publishable first last n
  pub block : exit ≡ cond (publishable first last n) (block_of (take n number) (take n first) (take n last)) entry
