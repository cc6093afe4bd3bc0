-- What the crate is for: the listing and the comparisons, shown once for any two days h and l, those of day, span and cover among them; and
-- the links that publish stores. Assumes nothing.
use Rattle.std.specs.Prelude.{Result, Ok, Err, IsOk}
use Rattle.refusal.specs.{declared.Refusal.{Refusal, TheVariants.{NoNumber, NoCandidate, OffCalendar, Reversed, BadUrgency, DuplicateNumber, UnknownNumber, Full, NoHistory, UnsortedDays, ShortBuffer, Malformed, OutOfOrder, NoSuchRule}}, Table.accepted, Numbers.{number_of}}
use Rattle.stabbing.specs.{declared.Listed.Listed, Answer.{told_in}}
use Rattle.stabbing.proofs.{Listing.{Lists, lists}, Marks.keep_skip, Names.{arith, refl, refused, Built, List, Sorted, [], ◌*◌, ◌<◌, ◌∙◌, ◌≡◌, ◌≤◌, ap, count, day_at, fits_at, formula, keep, latest, length, span_start, start, walk, zero-le, ℕ}, Starts.{cover_latest, start_span}, StoredLinks.{StoredLinks, stored_links}, Walk.{formula_le, right, start_is}}

module _ (fs ls : List ℕ) (sorted : Sorted fs ls) where
  -- what the walk from the start of "first ≤ h, last ≥ l" finds: h and l are d and d for DAY d, b and a for SPAN a to b, and the row's
  -- first and last day for COVER of a row
  pub record Walked (h l : ℕ) : Type 0 where
    -- LISTING: the rows that fit, all of them and no other, each once and in the order; none where there is no start
    pub listing : (walk fs ls l (start fs ls h l)).list ≡ keep (fits_at fs ls h l) (length fs)
    pub listed : Lists (fits_at fs ls h l) (length fs) (walk fs ls l (start fs ls h l)).list
    pub unlisted : start fs ls h l ≡ 0 → (walk fs ls l (start fs ls h l)).list ≡ []
    -- COMPARISONS: the formula, at most three for each listed row, 0 where nothing is listed
    pub comparisons : (walk fs ls l (start fs ls h l)).comparisons ≡ formula fs ls (start fs ls h l) (walk fs ls l (start fs ls h l)).list
    pub few : (walk fs ls l (start fs ls h l)).comparisons ≤ 3 * length (walk fs ls l (start fs ls h l)).list
    pub none : (walk fs ls l (start fs ls h l)).list ≡ [] → (walk fs ls l (start fs ls h l)).comparisons ≡ 0

  pub walked : (h l : ℕ) → Walked h l
  walked h l = let i = start_is fs ls sorted h l in let r = right fs ls sorted h l in unfold formula count keep in record {
    listing = r.0;
    listed = rw r.0 (lists (fits_at fs ls h l) (length fs));
    unlisted = λ e. r.0 ∙ keep_skip (fits_at fs ls h l) 0 (length fs) zero-le (λ p _ k. i.miss p (rw e zero-le) k);
    comparisons = r.1;
    few = rw r.1 (formula_le fs ls (start fs ls h l) (walk fs ls l (start fs ls h l)).list);
    none = λ e. r.1 ∙ ap (formula fs ls (start fs ls h l)) e;
  }

  -- THE STARTS, by what is stored: a day's own; of a span, the latest by its last day if it begins in the span, else that of
  -- its first day; of a cover, the head of the row's chain, which is the latest by the row's first day
  pub span_start_lem : ((p : ℕ) → p < length fs → day_at fs p ≤ day_at ls p) → (a b : ℕ) → a ≤ b
      → start fs ls b a ≡ span_start fs ls a (latest fs ls b) (start fs ls a a)
  span_start_lem = start_span fs ls sorted

  pub cover_start : (p : ℕ) → p < length fs → start fs ls (day_at fs p) (day_at ls p) ≡ latest fs ls (day_at fs p)
  cover_start = cover_latest fs ls sorted

-- THE LINKS as publish stores them: each the definition's mark, or 0 for none, in 8,192 bytes
pub links_stored : (ix : List ℕ) → Built ix → StoredLinks ix
links_stored ix b = stored_links ix b.block

-- A REFUSAL is told by its number in the table; nothing is listed, and no comparison told
pub refusal_told : (refusal : Refusal) (out : List ℕ) → told_in (Err refusal) ≡ (refused (number_of refusal) out).result
refusal_told refusal out = refl

-- and no refusal has the number of an accepted call
some_number : (refusal : Refusal) → 0 < number_of refusal
some_number NoNumber = omega arith
some_number NoCandidate = omega arith
some_number OffCalendar = omega arith
some_number Reversed = omega arith
some_number BadUrgency = omega arith
some_number DuplicateNumber = omega arith
some_number UnknownNumber = omega arith
some_number Full = omega arith
some_number NoHistory = omega arith
some_number UnsortedDays = omega arith
some_number ShortBuffer = omega arith
some_number Malformed = omega arith
some_number OutOfOrder = omega arith
some_number NoSuchRule = omega arith

pub told_ok : (r : Result Listed Refusal) → (told_in r).refusal ≡ accepted → IsOk r
told_ok (Ok l) e = refl
told_ok (Err refusal) e = absurd (omega (arith, some_number refusal, e))
