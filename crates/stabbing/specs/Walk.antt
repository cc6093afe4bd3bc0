-- The walk over the tree: a definition that goes by the links and adds one at each test of a last day (document 01, "The tree and its
-- looks"). Assumes nothing.
use Rattle.std.specs.Prelude.{ℕ, zero, suc, true, false, List, [], ◌∷◌, leb, length}
use Rattle.stabbing.specs.Tree.{day_at, next, parent, left_sibling, last_child}

-- what a walk has found so far: the positions listed, the latest first, and the comparisons made (document 01's looks)
pub record Progress : Type 0 where
  pub list : List ℕ
  pub comparisons : ℕ

abbrev pub nothing : Progress
nothing = record { list = []; comparisons = 0 }

-- one more position listed, and one more comparison made
abbrev pub push : ℕ → Progress → Progress
push p s = record { list = p ∷ s.list; comparisons = s.comparisons }

abbrev pub tick : Progress → Progress
tick s = record { list = s.list; comparisons = suc s.comparisons }

module _ (fs ls : List ℕ) where
  -- ---- The walk, by the links, for the last day l
  -- A number f bounds how deep a recursion goes: none is deeper than the list is long.
  module _ (l : ℕ) where
    -- LOOK: a test of a spell's last day against the question, if there is a spell to look at; one comparison. If the spell
    -- fits, the walk goes on from it: what the walk meets begins by the start's first day, so that its last day decides.
    unfoldable pub compare : ℕ → (ℕ → Progress → Progress) → Progress → Progress
    compare zero go s = s
    compare (suc p) go s = elim (leb l (day_at ls p)) [ true ↦ go p (tick s) | false ↦ tick s ]

    -- p is listed, and the chain is followed from p while spells fit
    unfoldable pub chain : ℕ → Progress → Progress
    chain zero s = push zero s
    chain (suc p) s = compare (next fs ls (suc p)) (λ _. chain p) (push (suc p) s)

    -- The head w, which fits: first its last child, and that child's last child, while they fit; then, from the lowest up and
    -- w last, each head's chain and its left sibling, from which it goes on the same way.
    unfoldable pub descend : ℕ → ℕ → Progress → Progress
    descend zero w s = s
    descend (suc f) w s = compare (left_sibling fs ls w) (descend f) (chain w (compare (last_child fs ls w) (descend f) s))

    -- along the path upward from the mark m: each head's chain, and its left sibling
    unfoldable pub climb : ℕ → ℕ → Progress → Progress
    climb zero m s = s
    climb (suc f) zero s = s
    climb (suc f) (suc v) s = climb f (parent fs ls v) (compare (left_sibling fs ls v) (descend (length fs)) (chain v s))

    -- THE WALK from the start with the mark m
    unfoldable pub walk : ℕ → Progress
    walk m = climb (length fs) m nothing
