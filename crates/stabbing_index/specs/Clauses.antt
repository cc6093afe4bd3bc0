-- What the two sweeps of the builder read, what they have written, and the words that are laid into the block: what the contracts of
-- its private functions cite. xs and ys are the columns of first and last days, fs and ls the days themselves. A record with `At` in
-- its name is over any days; what the contracts cite, with `Of`, `In`, `Asks` or `Gives` in its name, is the same at the first n words
-- of the columns. Assumes nothing.
use Rattle.std.specs.Prelude.{ℕ, max, suc, ◌+◌, ◌≤◌, ◌<◌, Bool, true, not, ◌&&◌, ◌||◌, cond, List, ◌++◌, ◌≡◌, eqb, leb, ltb, length, get_or, take}
use Rattle.stabbing_index.specs.declared.Way.{Way}
use Rattle.stabbing.specs.Tree.{below, day_at, head, next, parent, child, left_sibling, last_child, start}
use Rattle.stabbing.specs.Stored.{Sorted, latest}
use Rattle.stabbing.specs.Index.{capacity, day_count, bucket_count, rows_ok, column, last_of, head_link, row_link, bucket_of, in_bucket}
use Rattle.stabbing.specs.Clauses.{Head, bottom}

-- ---- The columns

-- the columns xs and ys hold the n first and last days fs and ls, which stand in the order
pub record Columns (xs ys fs ls : List ℕ) (n : ℕ) : Type 0 where
  pub count : length fs ≡ n
  pub few : n ≤ capacity
  pub sorted : Sorted fs ls
  pub firsts : (p : ℕ) → p < n → get_or xs p 0 ≡ day_at fs p
  pub lasts : (p : ℕ) → p < n → get_or ys p 0 ≡ day_at ls p

abbrev pub ColumnsOf : List ℕ → List ℕ → ℕ → Type 0
ColumnsOf xs ys n = Columns xs ys (take n xs) (take n ys) n

-- is the position k of n, by the column of first days, a head?
abbrev pub head_at : List ℕ → ℕ → ℕ → Bool
head_at xs n k = eqb (suc k) n || not (eqb (get_or xs k 0) (get_or xs (suc k) 0))

-- ---- The way from the mark m up to the nearest that lasts to l

-- does the head b last to l?
abbrev pub lasts_to : List ℕ → List ℕ → ℕ → ℕ → Bool
lasts_to fs ls l b = head fs ls b && leb l (day_at ls b)

-- no head between the mark m and the position a lasts longer than that of m, and k is the last child before a of m
pub record Under (fs ls : List ℕ) (m k a : ℕ) : Type 0 where
  pub within : m ≤ a
  pub long : (v : ℕ) → m ≡ suc v → (x : ℕ) → v < x → x < a → Head fs ls x → day_at ls x ≤ day_at ls v
  pub last : k ≡ child fs ls m a

-- m is the mark of a head, and the column ps holds the parents below it
pub record ClimbAt (xs ys fs ls : List ℕ) (n : ℕ) (ps : List ℕ) (m : ℕ) : Type 0 where
  pub columns : Columns xs ys fs ls n
  pub within : m ≤ n
  pub at_head : (v : ℕ) → m ≡ suc v → Head fs ls v
  pub parents : (v : ℕ) → v < m → get_or ps v 0 ≡ head_link fs ls (parent fs ls) v

abbrev pub ClimbAsks : List ℕ → List ℕ → ℕ → List ℕ → ℕ → Type 0
ClimbAsks xs ys n ps m = ClimbAt xs ys (take n xs) (take n ys) n ps m

-- where the way ends; and of a position a that the way begins under, k becomes the last child before a of where it ends
pub record Climbed (fs ls : List ℕ) (l m k : ℕ) (w : Way) : Type 0 where
  pub parent : w.parent ≡ below (lasts_to fs ls l) m
  pub left : (a : ℕ) → Under fs ls m k a → w.left ≡ child fs ls w.parent a
  pub low : w.parent ≤ m
  pub left_low : w.left ≤ max m k

abbrev pub ClimbGives : List ℕ → List ℕ → ℕ → ℕ → ℕ → ℕ → Way → Type 0
ClimbGives xs ys n l m k w = Climbed (take n xs) (take n ys) l m k w

-- ---- The links

-- a column of n words: the first k are those of g, and the others 0
pub record Grown (n : ℕ) (ws : List ℕ) (g : ℕ → ℕ) (k : ℕ) : Type 0 where
  pub size : length ws ≡ n
  pub done : (v : ℕ) → v < k → get_or ws v 0 ≡ g v
  pub rest : (v : ℕ) → k ≤ v → get_or ws v 0 ≡ 0

-- the columns ps, qs and cs hold the links of the heads below k: parents, left siblings, and of the children those below k
pub record Linked (fs ls ps qs cs : List ℕ) (k : ℕ) : Type 0 where
  pub parents : Grown capacity ps (head_link fs ls (parent fs ls)) k
  pub lefts : Grown capacity qs (head_link fs ls (left_sibling fs ls)) k
  pub size : length cs ≡ capacity
  pub children : (v : ℕ) → get_or cs v 0 ≡ child fs ls (suc v) k

abbrev pub LinkedOf : List ℕ → List ℕ → ℕ → List ℕ → List ℕ → List ℕ → ℕ → Type 0
LinkedOf xs ys n ps qs cs k = Linked (take n xs) (take n ys) ps qs cs k

-- the column ns holds the links of the chains, up to the position k
abbrev pub Chained : List ℕ → List ℕ → List ℕ → ℕ → Type 0
Chained fs ls ns k = Grown capacity ns (row_link fs ls (next fs ls)) (k + 1)

abbrev pub ChainedOf : List ℕ → List ℕ → ℕ → List ℕ → ℕ → Type 0
ChainedOf xs ys n ns k = Chained (take n xs) (take n ys) ns k

-- the head k after those below it, the latest of which has the mark prev
pub record HeadAt (xs ys fs ls : List ℕ) (n k prev : ℕ) (ps qs cs : List ℕ) : Type 0 where
  pub columns : Columns xs ys fs ls n
  pub inside : k < n
  pub top : Head fs ls k
  pub before : prev ≡ bottom fs ls k
  pub below : prev ≤ k
  pub links : Linked fs ls ps qs cs k

abbrev pub HeadAsks : List ℕ → List ℕ → ℕ → ℕ → ℕ → List ℕ → List ℕ → List ℕ → Type 0
HeadAsks xs ys n k prev ps qs cs = HeadAt xs ys (take n xs) (take n ys) n k prev ps qs cs

-- ---- The tables by day

-- m rows at least, of n, begin by day d
pub record AdvanceAt (xs ys fs ls : List ℕ) (n d m : ℕ) : Type 0 where
  pub columns : Columns xs ys fs ls n
  pub within : m ≤ n
  pub below : m ≤ latest fs ls d

abbrev pub AdvanceAsks : List ℕ → List ℕ → ℕ → ℕ → ℕ → Type 0
AdvanceAsks xs ys n d m = AdvanceAt xs ys (take n xs) (take n ys) n d m

abbrev pub latest_in : List ℕ → List ℕ → ℕ → ℕ → ℕ
latest_in xs ys n d = latest (take n xs) (take n ys) d

-- rows that can be published, with their parents
pub record DaysAt (xs ys fs ls : List ℕ) (n : ℕ) (ps : List ℕ) : Type 0 where
  pub columns : Columns xs ys fs ls n
  pub in_order : rows_ok fs ls ≡ true
  pub parents : (v : ℕ) → v < n → get_or ps v 0 ≡ head_link fs ls (parent fs ls) v

abbrev pub DaysAsks : List ℕ → List ℕ → ℕ → List ℕ → Type 0
DaysAsks xs ys n ps = DaysAt xs ys (take n xs) (take n ys) n ps

-- the day d + 1, of which e is the latest, after the day d, of which m is the latest and s the start
pub record DayAt (xs ys fs ls : List ℕ) (n : ℕ) (ps : List ℕ) (d m e s : ℕ) : Type 0 where
  pub rows : DaysAt xs ys fs ls n ps
  pub in_calendar : d < 4000
  pub e_in : e ≤ n
  pub s_in : s ≤ n
  pub m_is : m ≡ latest fs ls d
  pub e_is : e ≡ latest fs ls (d + 1)
  pub s_is : s ≡ start fs ls d d

abbrev pub DayAsks : List ℕ → List ℕ → ℕ → List ℕ → ℕ → ℕ → ℕ → ℕ → Type 0
DayAsks xs ys n ps d m e s = DayAt xs ys (take n xs) (take n ys) n ps d m e s

abbrev pub start_in : List ℕ → List ℕ → ℕ → ℕ → ℕ
start_in xs ys n d = start (take n xs) (take n ys) d d

-- the tables ss and bs hold the start and the latest of every day below d
pub record Dayed (fs ls ss bs : List ℕ) (d : ℕ) : Type 0 where
  pub starts : Grown day_count ss (λ x. start fs ls x x) d
  pub begun : Grown day_count bs (latest fs ls) d

abbrev pub DayedOf : List ℕ → List ℕ → ℕ → List ℕ → List ℕ → ℕ → Type 0
DayedOf xs ys n ss bs d = Dayed (take n xs) (take n ys) ss bs d

-- ---- The words, one column after another

-- the days fs and ls are n rows that can be published
pub record RowsAt (fs ls : List ℕ) (n : ℕ) : Type 0 where
  pub few : n ≤ capacity
  pub count : length fs ≡ n
  pub in_order : rows_ok fs ls ≡ true

-- the first n words of the columns of days are
abbrev pub RowsOf : List ℕ → List ℕ → ℕ → Type 0
RowsOf first last n = RowsAt (take n first) (take n last) n

-- the block's words from `from` up to `to` have become these, and the words before them are kept
pub record Extends (entry : List ℕ) (from to : ℕ) (words exit : List ℕ) : Type 0 where
  pub size : length exit ≡ length entry
  pub front : take to exit ≡ take from entry ++ words

-- the row before the row j in its bucket, none past n rows
abbrev pub lower_word : List ℕ → ℕ → ℕ → ℕ
lower_word number n j = cond (ltb j n) (in_bucket number (bucket_of (get_or number j 0)) j) 0

-- for each bucket the latest of n rows, and for each of these the one before it
abbrev pub name_words : List ℕ → ℕ → List ℕ
name_words number n = column bucket_count (λ b. in_bucket number b n) ++ column capacity (lower_word number n)

-- the columns bs and ws hold the words of the first k of n rows with the numbers ns: for each bucket the latest, and the one before each
pub record Named (ns bs ws : List ℕ) (n k : ℕ) : Type 0 where
  pub within : k ≤ n
  pub size : length bs ≡ bucket_count
  pub buckets : (b : ℕ) → b < bucket_count → get_or bs b 0 ≡ in_bucket ns b k
  pub lowers : Grown capacity ws (lower_word ns n) k

-- marks, and the last days of the rows that they name
abbrev pub mark_words : List ℕ → List ℕ → List ℕ
mark_words last marks = marks ++ column capacity (λ p. last_of last (get_or marks p 0))

-- marks by position, with the last days beside them
abbrev pub beside : List ℕ → (ℕ → ℕ) → List ℕ
beside ls m = column capacity m ++ column capacity (λ p. last_of ls (m p))

-- the links
unfoldable pub link_words : List ℕ → List ℕ → List ℕ
link_words fs ls =
    column capacity (head_link fs ls (parent fs ls))
    ++ beside ls (head_link fs ls (left_sibling fs ls))
    ++ beside ls (head_link fs ls (last_child fs ls))
    ++ beside ls (row_link fs ls (next fs ls))

-- the tables by day
unfoldable pub day_words : List ℕ → List ℕ → List ℕ
day_words fs ls = column day_count (λ d. start fs ls d d) ++ column day_count (latest fs ls)
