-- The steps of the days question, apart from the code. Assumes nothing.
use Rattle.basis.proofs.Prelude.{◌∙◌, ◌≡◌, ap, sym, ◌*◌, ◌+◌, ◌-◌, ◌<◌, ◌≤◌, zero-le, ℕ, List, [], ◌++◌, ◌∷◌, append_assoc, append-nil, map-append, Bool, false, true, ltb, drop, drop_of_length-le, get_or, length, length-append, length-drop, length-map, take, take-append-drop, drop_at, drop-cons, length-replicate, replicate, length-take-le, take_all, take_at, add-one, arith, le-ltb, lt-ltb, ltb-true, both, not, length-take}
use Rattle.std.specs.Prelude.{Result, Ok, Err, IsOk, MatchBool, zero, suc, refl}
use Rattle.std.specs.List.{AllWithin, HoldsAt}
use mathlib.Core.Bool.{and-false}
use borrow.Rule.Slice.PartMut.{put_mid, post_of}
use Rattle.refusal.specs.declared.Refusal.{Refusal, TheVariants.{ShortBuffer}}
use Rattle.stabbing.{specs.declared.Listed.Listed, specs.Answer.told_in, proofs.Claims.told_ok}
use Rattle.stabbing.{specs.{Tree.{keep, fits_at, start, formula}, Index.{latest_table, Built, numbers, firsts, lasts}, Answer.{Told, Reported, Gave, give, question, rising_from, contains_any, day_in, days_of, days_in}, Clauses.from}, specs.Stored.latest, proofs.Starts.latest_is, proofs.Steps.keep_room, proofs.Block.built_holds, proofs.Listing.lists, proofs.Days.{added, added_room, added_none, added_all, latest_none}}
use Rattle.buffer.{specs.Buffer.overlaid, proofs.Overlaid.overlaid_all}
use Rattle.calendar.{specs.Calendar.{is_day, days_ok}, proofs.Calendar.dated}
use Rattle.stabbing_query.{specs.Clauses.numbered, proofs.Answering.{give_all, give_none, on, refusal, keep_map, day_in_lem}}
use Rattle.stabbing_days.specs.Clauses.{Skips, Parted, day_from, days_from, asked, asked_all, AddAsks, GatherAsks, Added, Gathered}
use Rattle.stabbing_days.proofs.Skipping.{drop_map, rest_from, closed}

-- ---- The checks

-- a list is on the calendar as far as its days are, one by one
pub days_checked : (ds : List ℕ) (r : Bool) → MatchBool r (AllWithin (λ d. is_day d ≡ true) ds 0 (length ds)) ((k : ℕ) × (k < length ds) × HoldsAt (λ d. is_day d ≡ false) ds k)
    → r ≡ days_ok ds
unfolding days_ok
days_checked [] true m = refl
days_checked [] false (k, h, off) = absurd (omega arith)
days_checked (d ∷ ds) true m = rw (m 0 0 (omega arith) (omega arith), ← days_checked ds true (λ k x l h. m (suc k) x (omega arith) (omega arith)))
days_checked (d ∷ ds) false (zero, h, off) = rw (off 0)
days_checked (d ∷ ds) false (suc k, h, off) = rw (← days_checked ds false (k, omega arith, off)) (sym (and-false _))

-- what is said of the days from the place i on is what is said of all
split : (ds : List ℕ) (i : ℕ) → i < length ds → drop i ds ≡ get_or ds i 0 ∷ drop (i + 1) ds
split ds i h = rw add-one (drop-cons ds i 0 h)

module _ (ds : List ℕ) (i : ℕ) {says : Bool} (b : ℕ) (e : rising_from b (drop i ds) ≡ says) where
  pub rising_done : length ds ≤ i → true ≡ says
  rising_done h = unfold rising_from in rw (drop_of_length-le ds {i = i} h) at e

  pub rising_fails : i < length ds → get_or ds i 0 ≤ b → false ≡ says
  rising_fails h k = unfold rising_from in rw (split ds i h, le-ltb b (get_or ds i 0) k) at e

  pub rising_on : i < length ds → b < get_or ds i 0 → rising_from (get_or ds i 0) (drop (i + 1) ds) ≡ says
  rising_on h k = unfold rising_from in rw (split ds i h, lt-ltb b (get_or ds i 0) k) at e

-- ---- What one day adds

-- the day is asked into the part
module _ {ix : List ℕ} {d : ℕ} {part : List ℕ} (q : AddAsks ix d part) where
  abbrev finds : List ℕ
  finds = keep (fits_at (firsts ix) (lasts ix) d d) (length (firsts ix))

  abbrev ns : List ℕ
  ns = numbered ix finds

  room_for : (length ns ≡ length finds) × (length ns ≤ length part)
  room_for = unfold keep in omega (arith, length-map finds (λ (p : ℕ). get_or ix p 0), keep_room (fits_at (firsts ix) (lasts ix) d d) 0 (length (firsts ix)) zero-le, q.room)

  -- it is not refused: its finds stand in the first places
  given : day_in ix d part ≡ record { result = record { refusal = 0; count = length ns; comparisons = formula (firsts ix) (lasts ix) (start (firsts ix) (lasts ix) d d) finds }; out = ns ++ drop (length ns) part }
  given = unfold question in day_in_lem ix d part q.dated
      ∙ rw (← keep_map (λ p. get_or ix p 0) (λ p. get_or (numbers ix) p 0) (fits_at (firsts ix) (lasts ix) d d) (length (firsts ix)) (built_holds ix q.built).numbers) (give_all ns _ part room_for.1)

  asked_is : asked ix d part ≡ ns ++ drop (length ns) part
  asked_is = ap (λ (o : Reported). o.out) given

  asked_length : length (asked ix d part) ≡ length part
  asked_length = rw (asked_is, length-append) (omega (arith, length-drop (length ns) part, room_for))

  pub not_refused : (r : Result Listed Refusal) {xs : List ℕ} → Gave (told_in r) xs (day_in ix d part) → IsOk r
  not_refused r g = told_ok r (ap (λ (t : Told). t.refusal) (g.result ∙ ap (λ (o : Reported). o.result) given))

  module _ {a : Result Listed Refusal} {r : Listed} {xs : List ℕ} (g : Gave (told_in a) xs (day_in ix d part)) (o : a ≡ Ok r) where
    count_is : r.count ≡ length ns
    count_is = ap (λ (l : Told). l.count) (ap told_in (sym o) ∙ g.result ∙ ap (λ (o : Reported). o.result) given)

    pub count_within : r.count ≤ length xs
    count_within = omega (arith, count_is, room_for, ap length g.out, asked_length)

    pub counted : r.count ≡ length (take r.count xs)
    counted = sym (length-take-le r.count xs count_within)

    found_is : take r.count xs ≡ ns
    found_is = rw (g.out ∙ asked_is) (take_at ns (drop (length ns) part) r.count (sym count_is))

    -- with the place that is reached by skipping
    module _ {m f : ℕ} (z : Skips ix (take r.count xs) m f) where
      parted : Parted m f finds
      parted = let l = lists (fits_at (firsts ix) (lasts ix) d d) (length (firsts ix)) in
          z.skips finds (record { inside = λ k h. (l.passes k h).0; rises = l.rises }) found_is

      pub f_in : f ≤ r.count
      f_in = omega (arith, parted.within, count_is, room_for)

      pub f_within : f ≤ length (take r.count xs)
      f_within = omega (arith, counted, f_in)

      new : drop f (take r.count xs) ≡ day_from ix m d
      new = rw (found_is, drop_map (λ (p : ℕ). get_or ix p 0) f finds) (ap (numbered ix) (rest_from (fits_at (firsts ix) (lasts ix) d d) m (length (firsts ix)) f parted))

      pub adds : {ys : List ℕ} → ys ≡ overlaid (drop f (take r.count xs)) (take r.count xs) → Added (day_from ix m d) (asked ix d part) (ys ++ drop r.count xs) (r.count - f)
      adds y = record {
        count = omega (arith, ap length new, length-drop f (take r.count xs), counted);
        places = ap (λ (zs : List ℕ). zs ++ drop r.count xs) y ∙ closed xs r.count f count_within f_in ∙ rw (new, g.out);
      }

-- ---- What several days add

-- the rest of a list from the place a on, as it is lent
lent : (xs : List ℕ) (a : ℕ) → take (length xs - a) (drop a xs) ≡ drop a xs
lent xs a = take_all (length xs - a) (drop a xs) (omega (arith, length-drop a xs))

-- Day by day: the first `at` places hold what the first i days give, no more of it than the m rows that begin by the last of these; and what
-- the days still to come make of the later places, all days make of the list as it was.
pub record Going (ix ds answer₀ answer : List ℕ) (m at i : ℕ) : Type 0 where
  pub same : length answer ≡ length answer₀
  pub within : at ≤ length answer
  pub few : at ≤ m
  pub asks : GatherAsks ix (drop i ds) m (drop at answer)
  pub part : days_from ix 0 ds ≡ take at answer ++ days_from ix m (drop i ds)
  pub places : asked_all ix 0 ds answer₀ ≡ take at answer ++ asked_all ix m (drop i ds) (drop at answer)

pub begins : {ix ds answer : List ℕ} → GatherAsks ix ds 0 answer → Going ix ds answer answer 0 0 0
begins q = search zero-le

module _ {ix ds answer₀ answer : List ℕ} {m at i : ℕ} (g : Going ix ds answer₀ answer m at i) where
  pub ends : length ds ≤ i → Gathered ix ds answer₀ answer at
  ends h = unfold asked_all in let n : drop i ds ≡ [] = drop_of_length-le ds {i = i} h in
      let z : take at answer ≡ days_from ix 0 ds = sym (g.part ∙ rw (n, added_none (firsts ix) (lasts ix) (built_holds ix g.asks.built).sorted m, append-nil)) in record {
        count = sym (length-take-le at answer g.within) ∙ ap length z;
        first = z;
        places = sym (g.places ∙ rw n (take-append-drop at answer));
      }

  -- the next day x, and the places not yet written
  module _ (h : i < length ds) where
    abbrev x : ℕ
    x = get_or ds i 0

    dates : (is_day x ≡ true) × (days_ok (drop (i + 1) ds) ≡ true)
    dates = unfold days_ok in both (is_day x) (days_ok (drop (i + 1) ds)) (ap days_ok (sym (split ds i h)) ∙ g.asks.dated)

    rises : (ltb g.asks.b x ≡ true) × (rising_from x (drop (i + 1) ds) ≡ true)
    rises = unfold rising_from in both (ltb g.asks.b x) (rising_from x (drop (i + 1) ds)) (ap (rising_from g.asks.b) (sym (split ds i h)) ∙ g.asks.rising)

    asks_x : AddAsks ix x (drop at answer)
    asks_x = let w : m ≤ length (firsts ix) = rw g.asks.begun (latest_is (firsts ix) (lasts ix) (built_holds ix g.asks.built).sorted g.asks.b).within in
        record { built = g.asks.built; dated = dates.0; room = omega (arith, g.asks.room) }

    -- as they are lent
    pub some_left : 0 < length (take (length ds - i) (drop i ds))
    some_left = rw (lent ds i) (omega (arith, length-drop i ds))

    pub asks_day : AddAsks ix (get_or (take (length ds - i) (drop i ds)) 0 0) (take (length answer - at) (drop at answer))
    asks_day = rw (lent ds i, split ds i h, lent answer at) asks_x

    -- how many rows begin by it, as it is stored
    pub begun_word : {y : ℕ} → y ≡ x → (w : ℕ) → 18242 ≤ w → y + latest_table < w
    begun_word z w k = omega (arith, (dated x dates.0).1)

    module _ {ys : List ℕ} {k : ℕ} (a' : Added (day_from ix m (get_or (take (length ds - i) (drop i ds)) 0 0)) (asked ix (get_or (take (length ds - i) (drop i ds)) 0 0) (take (length answer - at) (drop at answer))) ys k) where
      a : Added (day_from ix m x) (asked ix x (drop at answer)) ys k
      a = rw (lent ds i, split ds i h, lent answer at) at a'

      abbrev M : ℕ
      M = latest (firsts ix) (lasts ix) x

      M_in : M ≤ length (firsts ix)
      M_in = (latest_is (firsts ix) (lasts ix) (built_holds ix g.asks.built).sorted x).within

      room : k + m ≤ M
      room = let l = length-map (keep (from m (fits_at (firsts ix) (lasts ix) x x)) (length (firsts ix))) (λ (p : ℕ). get_or ix p 0) in
          rw (a.count ∙ l, g.asks.begun) (added_room (firsts ix) (lasts ix) (built_holds ix g.asks.built).sorted g.asks.b x (ltb-true _ x rises.0))

      pub small : (w : ℕ) → 1024 < w → at + k < w
      small w n = omega (arith, room, g.few, M_in, (built_holds ix g.asks.built).few)

      -- what stands then in the answer: what is written, and the part that is left
      abbrev so_far : List ℕ
      so_far = take at answer ++ day_from ix m x

      abbrev left : List ℕ
      left = drop k (asked ix x (drop at answer))

      after_is : put_mid at (length answer - at) answer ys ≡ so_far ++ left
      after_is =
          let p : post_of at (length answer - at) answer ≡ [] = drop_of_length-le (drop at answer) {i = length answer - at} (omega (arith, length-drop at answer)) in
          rw (p, append-nil, a.places) (sym (append_assoc (take at answer) (day_from ix m x) left))

      long : length so_far ≡ at + k
      long = rw (length-append, length-take-le at answer g.within, a.count)

      -- what it adds, and what the rest does
      both_are : days_from ix m (drop i ds) ≡ day_from ix m x ++ days_from ix M (drop (i + 1) ds)
      both_are = rw (split ds i h, g.asks.begun, added (firsts ix) (lasts ix) (built_holds ix g.asks.built).sorted g.asks.b x (ltb-true _ x rises.0) (drop (i + 1) ds) rises.1, map-append)

      pub goes_on : {y M' : ℕ} → y ≡ x → M' ≡ get_or ix (y + latest_table) 0 → Going ix ds answer₀ (put_mid at (length answer - at) answer ys) M' (at + k) (i + 1)
      goes_on {y} {M'} z u = unfold asked_all in let e : M' ≡ M = u ∙ rw z ((built_holds ix g.asks.built).begun x (dated x dates.0).1) in
          let w = room in let j = M_in in let n = asked_length asks_x in let d = length-drop k (asked ix x (drop at answer)) in
          let o = length-drop at answer in let l = long in let p = length-append so_far left in let q = asks_x.room in
          let written = take_at so_far left (at + k) long in let unwritten = drop_at so_far left (at + k) long in
          let dated = dates.1 in let rising = rises.1 in let free : 2 * length (firsts ix) ≤ M + length left = omega arith in
          let asks : GatherAsks ix (drop (i + 1) ds) M (drop (at + k) (so_far ++ left)) = rw unwritten (search) in
          let part : days_from ix 0 ds ≡ take (at + k) (so_far ++ left) ++ days_from ix M (drop (i + 1) ds)
          = g.part ∙ rw (both_are, written) (sym (append_assoc (take at answer) (day_from ix m x) _)) in
          let places : asked_all ix 0 ds answer₀ ≡ take (at + k) (so_far ++ left) ++ asked_all ix M (drop (i + 1) ds) (drop (at + k) (so_far ++ left))
          = g.places ∙ rw (split ds i h, ← a.count, written, unwritten) (sym (append_assoc (take at answer) (day_from ix m x) _)) in
          rw (e, after_is) (search arith)

-- ---- The answer

-- what was gathered
module _ {ix ds answer after : List ℕ} {k : ℕ} (a : Gathered ix ds answer after k) where
  pub part_count : k ≡ length (take k after)
  part_count = a.count ∙ ap length (sym a.first)

  pub part_in : k ≤ length after
  part_in = omega (arith, part_count, length-take k after)

-- the days pass the checks
module _ (ix ds : List ℕ) {t : Bool} (e : t ≡ days_ok ds) (f : not t ≡ false) {t' : Bool} (e' : t' ≡ rising_from 0 ds) (f' : not t' ≡ false) (b : Built ix) where
  pub asks_gather : {answer : List ℕ} → length answer ≡ 2048 → GatherAsks ix ds 0 answer
  asks_gather {answer} n = let s = built_holds ix b in let begun = sym (latest_none (firsts ix) (lasts ix) s.sorted s.begins) in
      let dated = on e f in let rising = on e' f' in
      let room : 2 * length (firsts ix) ≤ 0 + length answer = omega arith in search

  given_is : (out : List ℕ) → days_in ix ds out ≡ give (days_from ix 0 ds) 0 out
  given_is out = unfold days_of in rw (on e f, days_of) (rw (on e' f', days_of)
      (rw (added_all (firsts ix) (lasts ix) (built_holds ix b).sorted ds, keep_map (λ p. get_or ix p 0) (λ p. get_or (numbers ix) p 0) (contains_any (firsts ix) (lasts ix) ds) (length (firsts ix)) (built_holds ix b).numbers)))

  module _ {answer after : List ℕ} {k : ℕ} (a : Gathered ix ds answer after k) (out : List ℕ) where
    pub too_many : length out < k → Gave (told_in (Err ShortBuffer)) out (days_in ix ds out)
    too_many h = refusal ShortBuffer (given_is out ∙ give_none (days_from ix 0 ds) 0 out (rw a.count at h))

    pub all_written : k ≤ length out → {end : List ℕ} → end ≡ overlaid (take k after) out → Gave (record { refusal = 0; count = k; comparisons = 0 }) end (days_in ix ds out)
    all_written h z = rw (given_is out ∙ give_all (days_from ix 0 ds) 0 out (rw a.count at h)) (record {
      result = rw a.count;
      out = z ∙ rw a.first (overlaid_all (days_from ix 0 ds) out (rw a.count at h));
    })

  -- of no days nothing is gathered
  pub none_asked : length ds ≤ 0 → (out : List ℕ) → Gave (record { refusal = 0; count = 0; comparisons = 0 }) out (days_in ix ds out)
  none_asked h out = let none : Gathered ix ds (replicate 2048 0) (replicate 2048 0) 0 = ends (begins (asks_gather (length-replicate {A = ℕ} 2048 0))) h in
      all_written none out zero-le (sym (overlaid_all [] out zero-le))
