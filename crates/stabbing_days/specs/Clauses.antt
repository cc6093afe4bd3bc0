-- What the functions behind the days question ask and give: records and short names that their contracts cite. Assumes nothing.
use Rattle.std.specs.Prelude.{ℕ, suc, ◌+◌, ◌*◌, ◌≤◌, ◌<◌, true, List, [], ◌∷◌, ◌++◌, ◌≡◌, length, get_or, take, drop}
use Rattle.stabbing.specs.Tree.{keep, fits_at}
use Rattle.stabbing.specs.Stored.{latest}
use Rattle.stabbing.specs.Index.{Built, firsts, lasts}
use Rattle.calendar.specs.Calendar.{is_day, days_ok}
use Rattle.stabbing.specs.Answer.{rising_from, contains_any, day_in}
use Rattle.stabbing.specs.Clauses.{from}
use Rattle.stabbing_query.specs.Clauses.{numbered}

-- these positions are those of rows of the block, and rise
pub record InRows (ix ps : List ℕ) : Type 0 where
  pub inside : (k : ℕ) → k < length ps → get_or ps k 0 < length (firsts ix)
  pub rises : (k : ℕ) → suc k < length ps → get_or ps k 0 < get_or ps (suc k) 0

-- of the positions ps those before the place r are below m, and those from r on are not
pub record Parted (m r : ℕ) (ps : List ℕ) : Type 0 where
  pub within : r ≤ length ps
  pub low : (k : ℕ) → k < r → get_or ps k 0 < m
  pub high : (k : ℕ) → r ≤ k → k < length ps → m ≤ get_or ps k 0

-- where xs are numbers of rows in the order, the place r is the first from which on they lie past the first m
pub record Skips (ix xs : List ℕ) (m r : ℕ) : Type 0 where
  pub skips : (ps : List ℕ) → InRows ix ps → xs ≡ numbered ix ps → Parted m r ps

-- what one day adds: the numbers of the rows from the position m on that contain it
abbrev pub day_from : List ℕ → ℕ → ℕ → List ℕ
day_from ix m d = numbered ix (keep (from m (fits_at (firsts ix) (lasts ix) d d)) (length (firsts ix)))

-- and what several days add
abbrev pub days_from : List ℕ → ℕ → List ℕ → List ℕ
days_from ix m ds = numbered ix (keep (from m (contains_any (firsts ix) (lasts ix) ds)) (length (firsts ix)))

-- the part that is lent to a day once the day is asked: its finds, and then what the part held
abbrev pub asked : List ℕ → ℕ → List ℕ → List ℕ
asked ix d part = (day_in ix d part).out

-- and once several days are asked, each into the part that those before it leave: what a day adds is moved to the front of its part
unfoldable pub asked_all : List ℕ → ℕ → List ℕ → List ℕ → List ℕ
asked_all ix m [] part = part
asked_all ix m (d ∷ ds) part = day_from ix m d ++ asked_all ix (latest (firsts ix) (lasts ix) d) ds (drop (length (day_from ix m d)) (asked ix d part))

-- what is asked of one day: it is on the calendar, and there is room for all rows
pub record AddAsks (ix : List ℕ) (d : ℕ) (part : List ℕ) : Type 0 where
  pub built : Built ix
  pub dated : is_day d ≡ true
  pub room : length (firsts ix) ≤ length part

-- and of several: they are on the calendar and rise from a day b, by which m rows begin, and there is room for the other rows and once
-- more for all
pub record GatherAsks (ix ds : List ℕ) (m : ℕ) (answer : List ℕ) : Type 0 where
  pub built : Built ix
  pub dated : days_ok ds ≡ true
  pub b : ℕ
  pub rising : rising_from b ds ≡ true
  pub begun : m ≡ latest (firsts ix) (lasts ix) b
  pub room : 2 * length (firsts ix) ≤ m + length answer

-- the numbers ns stand in the first places, r of them, and the later places are as before
pub record Added (ns before after : List ℕ) (r : ℕ) : Type 0 where
  pub count : r ≡ length ns
  pub places : after ≡ ns ++ drop r before

-- what the days give stands in the first places, r of them, and every place is told
pub record Gathered (ix ds before after : List ℕ) (r : ℕ) : Type 0 where
  pub count : r ≡ length (days_from ix 0 ds)
  pub first : take r after ≡ days_from ix 0 ds
  pub places : after ≡ asked_all ix 0 ds before
