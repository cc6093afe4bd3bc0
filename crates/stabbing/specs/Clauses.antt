-- What the contracts of the functions behind the questions and the builder cite of the tree and of a block: not for a reader of the
-- promises. Assumes nothing.
use Rattle.std.specs.Prelude.{ℕ, zero, suc, ◌+◌, ◌≤◌, ◌<◌, Bool, true, false, not, ◌&&◌, List, ◌≡◌, leb, length, get_or}
use Rattle.stabbing.specs.Tree.{below, day_at, head, parent, left_sibling, last_child, next, start}
use Rattle.stabbing.specs.Stored.{Sorted, latest}
use Rattle.stabbing.specs.Index.{last_of, capacity, first_column, last_column, parent_column, left_column, left_last_column, child_column, child_last_column, next_column, next_last_column, start_table, latest_table}

-- the positions from m on that pass the test
abbrev pub from : ℕ → (ℕ → Bool) → ℕ → Bool
from m t p = leb m p && t p

-- the least position from p on, of the next f, that passes the test; p + f where none does
unfoldable pub above : (ℕ → Bool) → ℕ → ℕ → ℕ
above t p zero = p
above t p (suc f) = elim (t p) [ true ↦ p | false ↦ above t (suc p) f ]

module _ (fs ls : List ℕ) where
  abbrev pub Head : ℕ → Type 0
  Head p = head fs ls p ≡ true

  -- the mark of the head before v, which is the bottom of v's chain
  abbrev pub bottom : ℕ → ℕ
  bottom v = below (head fs ls) v

  -- The stretch of positions from the mark m up to the head v, both of the tree: m is v's parent or lies on the way from it to v, so
  -- that every head of the stretch ends before v does; and each has its parent in the stretch or at m.
  pub record Stretch (m v : ℕ) : Type 0 where
    pub top : Head v
    pub inside : v < length fs
    pub base : m ≤ bottom v
    pub low : parent fs ls v ≤ m
    pub deep : (x : ℕ) → m ≤ x → x < v → Head x → m ≤ parent fs ls x

  -- where the stretch of a last child w ends: at the first later head that lasts longer
  unfoldable pub over : ℕ → ℕ
  over w = above (λ y. head fs ls y && not (leb (day_at ls y) (day_at ls w))) (suc w) (length fs)

-- The block ix holds the rows with the numbers ns, the first days fs and the last days ls: every word that a question reads is
-- what the definitions give of them.
pub record Holds (ix ns fs ls : List ℕ) : Type 0 where
  pub few : length fs ≤ capacity
  pub named : length ns ≡ length fs
  pub sorted : Sorted fs ls
  pub begins : (p : ℕ) → p < length fs → 1 ≤ day_at fs p
  pub forward : (p : ℕ) → p < length fs → day_at fs p ≤ day_at ls p
  pub ends : (p : ℕ) → p < length fs → day_at ls p ≤ 4000
  pub numbers : (p : ℕ) → p < length fs → get_or ix p 0 ≡ get_or ns p 0
  pub firsts : (p : ℕ) → p < length fs → get_or ix (p + first_column) 0 ≡ day_at fs p
  pub lasts : (p : ℕ) → p < length fs → get_or ix (p + last_column) 0 ≡ day_at ls p
  pub parents : (v : ℕ) → v < length fs → Head fs ls v → get_or ix (v + parent_column) 0 ≡ parent fs ls v
  pub lefts : (v : ℕ) → v < length fs → Head fs ls v → get_or ix (v + left_column) 0 ≡ left_sibling fs ls v
  pub left_lasts : (v : ℕ) → v < length fs → Head fs ls v → get_or ix (v + left_last_column) 0 ≡ last_of ls (left_sibling fs ls v)
  pub children : (v : ℕ) → v < length fs → Head fs ls v → get_or ix (v + child_column) 0 ≡ last_child fs ls v
  pub child_lasts : (v : ℕ) → v < length fs → Head fs ls v → get_or ix (v + child_last_column) 0 ≡ last_of ls (last_child fs ls v)
  pub nexts : (p : ℕ) → p < length fs → get_or ix (p + next_column) 0 ≡ next fs ls p
  pub next_lasts : (p : ℕ) → p < length fs → get_or ix (p + next_last_column) 0 ≡ last_of ls (next fs ls p)
  pub starts : (d : ℕ) → d ≤ 4000 → get_or ix (d + start_table) 0 ≡ start fs ls d d
  pub begun : (d : ℕ) → d ≤ 4000 → get_or ix (d + latest_table) 0 ≡ latest fs ls d
