-- The words of the columns of links, by position: the definition's mark, or none. Assumes nothing.
use Rattle.stabbing.proofs.{Links.{child_is, left_is, next_le, parent_is}, Names.{Head, List, ◌&&◌, ◌<◌, ◌≡◌, ◌≤◌, arith, both, by_cases, false, head, head_link, last_child, le-ltb, left_sibling, length, lt-ltb, ltb, ltb-true, next, parent, row_link, suc, zero-le, ℕ}}

module _ (fs ls : List ℕ) where
  module _ (link : ℕ → ℕ) (p : ℕ) where
    -- at a row, and at a head
    pub row_link_lem : p < length fs → row_link fs ls link p ≡ link p
    row_link_lem h = rw (lt-ltb p (length fs) h)

    pub head_link_lem : p < length fs → Head fs ls p → head_link fs ls link p ≡ link p
    head_link_lem h hp = rw (lt-ltb p (length fs) h, hp)

    -- at a row that is no head, and past the rows
    pub head_none : p < length fs → head fs ls p ≡ false → head_link fs ls link p ≡ 0
    head_none h hp = rw (lt-ltb p (length fs) h, hp)

    pub head_past : length fs ≤ p → head_link fs ls link p ≡ 0
    head_past h = rw (le-ltb p (length fs) h)

    pub row_past : length fs ≤ p → row_link fs ls link p ≡ 0
    row_past h = rw (le-ltb p (length fs) h)

  -- every link is the mark of a row
  head_small : (link : ℕ → ℕ) → ((v : ℕ) → v < length fs → link v ≤ length fs) → (p : ℕ) → head_link fs ls link p ≤ length fs
  head_small link f p = by_cases (λ x. x ≤ length fs) (ltb p (length fs) && head fs ls p) (λ e. f p (ltb-true p (length fs) (both _ _ e).0)) (λ _. zero-le)

  pub parent_small : (p : ℕ) → head_link fs ls (parent fs ls) p ≤ length fs
  parent_small = head_small (parent fs ls) (λ v h. omega (arith, (parent_is fs ls v).within))

  pub left_small : (p : ℕ) → head_link fs ls (left_sibling fs ls) p ≤ length fs
  left_small = head_small (left_sibling fs ls) (λ v h. rw (left_is fs ls v) (omega (arith, (child_is fs ls (parent fs ls v) v).within)))

  pub child_small : (p : ℕ) → head_link fs ls (last_child fs ls) p ≤ length fs
  child_small = unfold last_child in head_small (last_child fs ls) (λ v h. (child_is fs ls (suc v) (length fs)).within)

  pub next_small : (p : ℕ) → row_link fs ls (next fs ls) p ≤ length fs
  next_small p = by_cases (λ x. x ≤ length fs) (ltb p (length fs)) (λ e. omega (arith, next_le fs ls p, ltb-true p (length fs) e)) (λ _. zero-le)
