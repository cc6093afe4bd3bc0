-- A text put after those that are gathered in the first places of a list. Assumes nothing.
use Rattle.std.specs.Prelude.{ℕ, ◌+◌, ◌≡◌, cond, List, ◌++◌, leb, length, take, drop}

-- the text is copied to the places from n on, and the others keep what they held
pub record Appends (text entry : List ℕ) (n r : ℕ) (exit : List ℕ) : Type 0 where
  pub place : r ≡ n + length text
  pub places : exit ≡ take n entry ++ (text ++ drop r entry)

-- where there is no room for it, all places do
pub record Leaves (entry : List ℕ) (n r : ℕ) (exit : List ℕ) : Type 0 where
  pub place : r ≡ n
  pub places : exit ≡ entry

-- by whether there is
abbrev pub Appended : List ℕ → List ℕ → ℕ → ℕ → List ℕ → Type 0
Appended text entry n r exit = cond (leb (n + length text) (length entry)) (Appends text entry n r exit) (Leaves entry n r exit)
