-- The tree over the published list, and the formula of its looks: document 01's definitions. Assumes nothing.
-- A spell is named by its POSITION in the order, 0 to n - 1. The list's days are two columns: fs has the first days by
-- position, ls the last days. A MARK names a position or none: 0 is none, and p + 1 is the position p.
use Rattle.std.specs.Prelude.{ℕ, zero, suc, ◌+◌, Bool, true, false, not, ◌&&◌, ◌||◌, List, [], ◌∷◌, ◌++◌, leb, eqb, length, get_or}

-- ---- Searching and listing positions

-- the mark of the greatest position below k that passes the test
unfoldable pub below : (ℕ → Bool) → ℕ → ℕ
below t zero = zero
below t (suc p) = elim (t p) [ true ↦ suc p | false ↦ below t p ]

-- the positions below k that pass the test, rising
unfoldable pub keep : (ℕ → Bool) → ℕ → List ℕ
keep t zero = []
keep t (suc p) = keep t p ++ elim (t p) [ true ↦ p ∷ [] | false ↦ [] ]

-- 1 for a test that passes, and how many of a list's positions pass
abbrev pub one : Bool → ℕ
one true = 1
one false = 0

unfoldable pub count : (ℕ → Bool) → List ℕ → ℕ
count t [] = 0
count t (p ∷ ps) = one (t p) + count t ps

-- does the mark name a position?
abbrev pub some : ℕ → Bool
some zero = false
some (suc p) = true

-- the day that a column has at a position
abbrev pub day_at : List ℕ → ℕ → ℕ
day_at ds p = get_or ds p 0

module _ (fs ls : List ℕ) where
  -- ---- The tree

  -- CHAIN: the spells with one first day, taken in falling order. So a chain is a run of positions taken downward, and its
  -- HEAD, the foremost, is the last position of its first day.
  unfoldable pub head : ℕ → Bool
  head p = eqb (suc p) (length fs) || not (eqb (day_at fs p) (day_at fs (suc p)))

  -- the next in p's chain: one position down, if that has the same first day
  unfoldable pub next : ℕ → ℕ
  next zero = zero
  next (suc p) = elim (eqb (day_at fs p) (day_at fs (suc p))) [ true ↦ suc p | false ↦ zero ]

  -- PARENT of the head a: the head with the greatest first day among heads b with b.first < a.first and b.last ≥ a.last.
  -- Among heads a smaller position is a smaller first day (proofs/Wording.antt).
  unfoldable pub parent : ℕ → ℕ
  parent a = below (λ b. head b && leb (day_at ls a) (day_at ls b)) a

  -- SIBLINGS: heads with one parent, or with none. Of those whose parent has the mark m, the one with the greatest first day
  -- below the position k.
  unfoldable pub child : ℕ → ℕ → ℕ
  child m k = below (λ b. head b && eqb (parent b) m) k

  -- LEFT SIBLING: the sibling with the next smaller first day
  unfoldable pub left_sibling : ℕ → ℕ
  left_sibling v = child (parent v) v

  -- LAST CHILD: the child with the greatest first day
  unfoldable pub last_child : ℕ → ℕ
  last_child v = child (suc v) (length fs)

  -- FITS, for a question "first ≤ h, last ≥ l"
  unfoldable pub fits_at : ℕ → ℕ → ℕ → Bool
  fits_at h l p = leb (day_at fs p) h && leb l (day_at ls p)

  -- START of a question: the listed head with the greatest first day
  unfoldable pub start : ℕ → ℕ → ℕ
  start h l = below (λ p. head p && fits_at h l p) (length fs)

  -- PATH: the start with the mark m and its ancestors, at most f of them
  unfoldable pub on_path : ℕ → ℕ → ℕ → Bool
  on_path zero m p = false
  on_path (suc f) zero p = false
  on_path (suc f) (suc v) p = eqb p v || on_path f (parent v) p

  -- ---- The formula
  -- LOOKS = listed spells with a next one in their chain + listed heads with a left sibling + listed heads off the path that
  -- have a child; for the start with the mark m and the positions ps that are listed.
  abbrev pub has_next : ℕ → Bool
  has_next p = some (next p)

  abbrev pub has_left : ℕ → Bool
  has_left p = head p && some (left_sibling p)

  abbrev pub has_child : (ℕ → Bool) → ℕ → Bool
  has_child on p = head p && not (on p) && some (last_child p)

  unfoldable pub formula : ℕ → List ℕ → ℕ
  formula m ps = count has_next ps + count has_left ps + count (has_child (on_path (length fs) m)) ps
