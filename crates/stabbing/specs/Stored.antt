-- How the start of a question is found with no comparison, by what publish stored; and the order of the rows. Only the program's
-- contracts and the proofs use this page. Assumes nothing.
use Rattle.std.specs.Prelude.{ℕ, zero, suc, ◌≤◌, ◌<◌, ◌≡◌, true, false, ◌&&◌, List, leb, length}
use Rattle.stabbing.specs.Tree.{below, day_at, head, parent}

-- THE ORDER, as far as the days show it: by first day, then last day, rising
pub record Sorted (fs ls : List ℕ) : Type 0 where
  pub same : length ls ≡ length fs
  pub rise : (p : ℕ) → suc p < length fs → day_at fs p ≤ day_at fs (suc p)
  pub tie : (p : ℕ) → suc p < length fs → day_at fs p ≡ day_at fs (suc p) → day_at ls p ≤ day_at ls (suc p)

module _ (fs ls : List ℕ) where
  -- the head with the greatest first day that begins by day h: as many rows begin by then as its mark says
  unfoldable pub latest : ℕ → ℕ
  latest h = below (λ p. head fs ls p && leb (day_at fs p) h) (length fs)

  -- the nearest that lasts to l, of the at most f heads from the mark m upward
  unfoldable pub nearest : ℕ → ℕ → ℕ → ℕ
  nearest l zero m = zero
  nearest l (suc f) zero = zero
  nearest l (suc f) (suc v) = elim (leb l (day_at ls v)) [ true ↦ suc v | false ↦ nearest l f (parent fs ls v) ]

  -- the start of a span that begins on day a, where m is the mark of the latest by its last day and d that of day a's start:
  -- m only if it begins on day a or later (document 01's M1)
  unfoldable pub span_start : ℕ → ℕ → ℕ → ℕ
  span_start a zero d = d
  span_start a (suc v) d = elim (leb a (day_at fs v)) [ true ↦ suc v | false ↦ d ]
