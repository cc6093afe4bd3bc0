-- What the functions behind the questions keep, ask and give: records and short names that their contracts cite. Assumes nothing.
use Rattle.std.specs.Prelude.{ℕ, suc, ◌+◌, ◌-◌, ◌*◌, ◌/◌, ◌%◌, ◌≤◌, ◌<◌, true, false, List, map, ◌≡◌, leb, length, get_or, drop}
use Rattle.refusal.specs.Table.{short_buffer}
use Rattle.stabbing.specs.Tree.{day_at, parent, child, left_sibling, last_child, start}
use Rattle.stabbing.specs.Walk.{Progress, compare, chain, descend, climb, walk}
use Rattle.stabbing.specs.Index.{capacity, numbers, firsts, lasts}
use Rattle.stabbing.specs.Answer.{Told, Reported, give}
use Rattle.stabbing.specs.Clauses.{Head, bottom, Stretch, over, Holds}

-- the numbers of the rows at these positions, as a block has them
abbrev pub numbered : List ℕ → List ℕ → List ℕ
numbered ix ps = map (λ p. get_or ix p 0) ps

-- The list is written from its end downward, so that the numbers of the rows found stand there with the latest first. The state is
-- one number: the place reached, 65536 each, and the comparisons.
pub record Now (ix xs : List ℕ) (s : ℕ) (f : Progress) : Type 0 where
  pub size : length xs ≡ capacity
  pub fits : length f.list ≤ capacity
  pub few : f.comparisons < 65536
  pub is : s + 65536 * length f.list ≡ 67108864 + f.comparisons
  pub list : drop (capacity - length f.list) xs ≡ numbered ix f.list

-- from the list xs with the state s to xs' with s': what was found becomes what `go` makes of it
pub record Does (ix xs : List ℕ) (s : ℕ) (xs' : List ℕ) (s' : ℕ) (go : Progress → Progress) : Type 0 where
  pub does : (f : Progress) → Now ix xs s f → Now ix xs' s' (go f)
  pub bound : s' < 67174400

-- the functions of the walk, of a block's own rows
abbrev pub chain_of : List ℕ → ℕ → ℕ → Progress → Progress
chain_of ix l p = chain (firsts ix) (lasts ix) l p

abbrev pub descend_of : List ℕ → ℕ → ℕ → Progress → Progress
descend_of ix l w = descend (firsts ix) (lasts ix) l (length (firsts ix)) w

abbrev pub climb_of : List ℕ → ℕ → ℕ → Progress → Progress
climb_of ix l m = climb (firsts ix) (lasts ix) l (length (firsts ix)) m

-- what is below the head w; and w's chain with what is beside w
abbrev pub below_of : List ℕ → ℕ → ℕ → Progress → Progress
below_of ix l w = compare (firsts ix) (lasts ix) l (last_child (firsts ix) (lasts ix) w) (descend_of ix l)

abbrev pub beside_of : List ℕ → ℕ → ℕ → Progress → Progress
beside_of ix l v f = compare (firsts ix) (lasts ix) l (left_sibling (firsts ix) (lasts ix) v) (descend_of ix l) (chain_of ix l v f)

-- What is asked. In each, `at` is what was found so far.
module _ (ix : List ℕ) where
  -- of a block, for a last day l
  pub record Held (l : ℕ) : Type 0 where
    pub built : Holds ix (numbers ix) (firsts ix) (lasts ix)
    pub dated : 1 ≤ l

  pub record ChainAsks (l p : ℕ) (xs : List ℕ) (s : ℕ) : Type 0 where
    pub held : Held l
    pub inside : p < length (firsts ix)
    pub at : Progress
    pub now : Now ix xs s at
    pub free : length at.list + suc p ≤ capacity
    pub few : at.comparisons + p ≤ 8192

  -- v is a head that lasts to l
  pub record Headed (l v : ℕ) : Type 0 where
    pub held : Held l
    pub inside : v < length (firsts ix)
    pub top : Head (firsts ix) (lasts ix) v
    pub lasting : l ≤ day_at (lasts ix) v

  -- w is the last child of its stretch
  pub record LastChild (w : ℕ) : Type 0 where
    pub stretch : Stretch (firsts ix) (lasts ix) (parent (firsts ix) (lasts ix) w) (over (firsts ix) (lasts ix) w)
    pub is : child (firsts ix) (lasts ix) (parent (firsts ix) (lasts ix) w) (over (firsts ix) (lasts ix) w) ≡ suc w

  -- and there are places and comparisons enough for the stretch
  pub record DescendAsks (l w : ℕ) (xs : List ℕ) (s : ℕ) : Type 0 where
    pub head : Headed l w
    pub last : LastChild w
    pub at : Progress
    pub now : Now ix xs s at
    pub free : length at.list + bottom (firsts ix) (lasts ix) (over (firsts ix) (lasts ix) w) ≤ capacity
    pub few : at.comparisons + 3 * bottom (firsts ix) (lasts ix) (over (firsts ix) (lasts ix) w) ≤ 3 * length (firsts ix) + parent (firsts ix) (lasts ix) w

  -- m is none or a head that lasts to l
  abbrev pub HeadedMark : ℕ → ℕ → Type 0
  HeadedMark l m = (v : ℕ) → m ≡ suc v → Headed l v

  pub record ClimbAsks (l m : ℕ) (xs : List ℕ) (s : ℕ) : Type 0 where
    pub headed : HeadedMark l m
    pub at : Progress
    pub now : Now ix xs s at
    pub free : length at.list + m ≤ capacity
    pub few : at.comparisons + 3 * m ≤ 3 * length (firsts ix)

  -- what a walk asks of its start
  pub record WalkAsks (l m : ℕ) : Type 0 where
    pub headed : HeadedMark l m

abbrev pub walk_of : List ℕ → ℕ → ℕ → Progress
walk_of ix l m = walk (firsts ix) (lasts ix) l m

-- an answer from the one number that hands it on: the state that the walk ends in, or a number whose place is past the end of the
-- list of finds where the buffer is short
unfoldable pub decoded : ℕ → Told
decoded s = elim (leb (s / 65536) capacity) [
  | true ↦ record { refusal = 0; count = capacity - s / 65536; comparisons = s % 65536 }
  | false ↦ record { refusal = short_buffer; count = 0; comparisons = 0 }
]

-- what is listed of a walk's positions
abbrev pub listed_of : List ℕ → ℕ → ℕ → List ℕ → Reported
listed_of ix l m out = give (numbered ix (walk_of ix l m).list) (walk_of ix l m).comparisons out

abbrev pub start_of : List ℕ → ℕ → ℕ → ℕ
start_of ix h l = start (firsts ix) (lasts ix) h l
