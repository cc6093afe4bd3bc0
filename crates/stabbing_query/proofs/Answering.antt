-- From the walk to the answers of day, span and cover: what is written, the theorems on listing and comparisons, the starts. Assumes nothing.
use Rattle.basis.proofs.Prelude.{◌∙◌, ◌≡◌, ap, refl, sym, ◌%◌, ◌+◌, ◌-◌, ◌/◌, ◌<◌, ◌≤◌, suc, zero, zero-le, ℕ, List, [], ◌++◌, ◌∷◌, map, map-append, Bool, false, not, true, ◌≢◌, drop, drop_of_length-le, get_or, length, length-map, take, take_all, le_refl, arith, le-leb, lt-leb, not-false, not-true, by_mark, by_test}
use Rattle.std.specs.Prelude.{Err}
use Rattle.refusal.specs.{declared.Refusal.{Refusal}, Numbers.{number_of}}
use Rattle.buffer.{specs.Buffer.overlaid, proofs.Overlaid.overlaid_all}
use Rattle.stabbing.{proofs.Block.built_holds, proofs.{Marks.{below_is, keep_hit, keep_miss}, Starts.{latest_is, start_span, cover_latest}}, specs.Answer.{Told, Reported, refused, told_in, give, question, day_in, Gave, span_in, cover_in}}
use Rattle.stabbing_query.proofs.Names.{day_of, span_of, cover_of, covering, keep, day_at, fits_at, start, nothing, walk, latest, span_start, start_is, listing, comparisons_formula, first_column, last_column, start_table, latest_table, Built, named, numbers, firsts, lasts, mark_in, is_day, dated, Now, Does, ClimbAsks, WalkAsks, numbered, decoded, listed_of, climb_of, walk_of, start_of}

-- ---- The walk's beginning and its end
start_now : {ix xs : List ℕ} → length xs ≡ 1024 → Now ix xs 67108864 nothing
start_now {xs = xs} n = record { size = n; fits = zero-le; few = omega arith; is = refl; list = drop_of_length-le xs {i = 1024} (omega arith) }

pub starts : {ix xs : List ℕ} {l m : ℕ} → WalkAsks ix l m → length xs ≡ 1024 → ClimbAsks ix l m xs 67108864
starts {ix} {m = m} q n = let i : (m ≤ length (firsts ix)) × (m ≤ 1024)
    = by_mark m (λ z. omega arith) (λ v z. let w = q.headed v z in omega (arith, w.held.built.few)) in
    record { headed = q.headed; at = nothing; now = start_now n; free = omega arith; few = omega arith }

-- the two ends of `decoded`, and of `give`
pub decoded_none : (s : ℕ) → 1024 < s / 65536 → decoded s ≡ record { refusal = 11; count = 0; comparisons = 0 }
decoded_none s h = unfold decoded in rw (lt-leb (s / 65536) 1024 h, decoded)

pub decoded_all : (s : ℕ) → s / 65536 ≤ 1024 → decoded s ≡ record { refusal = 0; count = 1024 - s / 65536; comparisons = s % 65536 }
decoded_all s h = unfold decoded in rw (le-leb (s / 65536) 1024 h, decoded)

module _ (ns : List ℕ) (comparisons : ℕ) (out : List ℕ) where
  pub give_all : length ns ≤ length out → give ns comparisons out ≡ record { result = record { refusal = 0; count = length ns; comparisons = comparisons }; out = ns ++ drop (length ns) out }
  give_all h = unfold give in rw (le-leb (length ns) (length out) h, give)

  pub give_none : length out < length ns → give ns comparisons out ≡ refused 11 out
  give_none h = unfold give in rw (lt-leb (length ns) (length out) h, give)

module _ (ix : List ℕ) (l m : ℕ) {ys xs : List ℕ} {s : ℕ} (d : Does ix ys 67108864 xs s (climb_of ix l m)) (n : length ys ≡ 1024) where
  walked : Now ix xs s (walk_of ix l m)
  walked = unfold walk in d.does nothing (start_now n)

  pub whole : 1024 ≤ length xs
  whole = omega (arith, walked)

  abbrev ns : List ℕ
  ns = numbered ix (walk_of ix l m).list

  parts : (1024 - s / 65536 ≡ length ns) × (s % 65536 ≡ (walk_of ix l m).comparisons) × (s / 65536 ≡ 1024 - length (walk_of ix l m).list)
  parts = omega (arith, walked, length-map (walk_of ix l m).list (λ (p : ℕ). get_or ix p 0))

  pub too_short : (out : List ℕ) → length out < 1024 - s / 65536 → Gave (decoded 67174400) out (listed_of ix l m out)
  too_short out h = rw (give_none ns (walk_of ix l m).comparisons out (omega (arith, parts))) (record { result = decoded_none 67174400 (omega arith); out = refl })

  -- the places from the one reached on hold what was found
  pub all_given : (out : List ℕ) → 1024 - s / 65536 ≤ length out → {after : List ℕ} → after ≡ overlaid (take (1024 - s / 65536) (drop (s / 65536) xs)) out → Gave (decoded s) after (listed_of ix l m out)
  all_given out h e = let z : drop (s / 65536) xs ≡ ns = rw parts.2 walked.list in rw (give_all ns (walk_of ix l m).comparisons out (omega (arith, parts))) (record {
    result = decoded_all s (omega arith) ∙ rw (parts.0, parts.1);
    out = e ∙ rw (z, take_all (1024 - s / 65536) ns (omega (arith, parts))) (overlaid_all ns out (omega (arith, parts)));
  })

-- what is listed, by its numbers
pub keep_map : (f g : ℕ → ℕ) (t : ℕ → Bool) (k : ℕ) → ((p : ℕ) → p < k → f p ≡ g p) → map f (keep t k) ≡ map g (keep t k)
unfolding keep
keep_map f g t zero h = refl
keep_map f g t (suc k) h = let ih = keep_map f g t k (λ p a. h p (omega arith)) in by_test (t k)
    (λ e. rw (keep_hit t k e) (map-append f (keep t k) (k ∷ []) ∙ rw (ih, h k (le_refl (suc k))) (sym (map-append g (keep t k) (k ∷ [])))))
    (λ e. rw (keep_miss t k e) ih)

-- ---- A question "first ≤ h, last ≥ l" of a block, by the mark m of its start: the walk that it makes, and its outcome o
module _ {ix : List ℕ} (b : Built ix) (h : ℕ) {l m : ℕ} (dates : 1 ≤ l) (z : m ≡ start (firsts ix) (lasts ix) h l) where
  pub asks_walk : WalkAsks ix l m
  asks_walk = let built = built_holds ix b in let i = start_is (firsts ix) (lasts ix) built.sorted h l in
      record { headed = λ v e. let p = i.hit v (sym z ∙ e) in search arith }

  pub gives : (out : List ℕ) {after : List ℕ} {a r : Told} {o : Reported} → o ≡ question (numbers ix) (firsts ix) (lasts ix) h l out → Gave a after (listed_of ix l m out) → r ≡ a → Gave r after o
  gives out e g t = unfold question in let s = (built_holds ix b).sorted in let y = keep_map (λ p. get_or ix p 0)
      (λ p. get_or (numbers ix) p 0) (fits_at (firsts ix) (lasts ix) h l) (length (firsts ix)) (built_holds ix b).numbers in
      rw (e, t) (rw (z, listing (firsts ix) (lasts ix) s h l, comparisons_formula (firsts ix) (lasts ix) s h l, y) at g)

-- a test that was denied, or not
pub off : {t b : Bool} → t ≡ b → not t ≡ true → b ≡ false
off {t} e f = sym e ∙ not-true t f

pub on : {t b : Bool} → t ≡ b → not t ≡ false → b ≡ true
on {t} e f = sym e ∙ not-false t f

pub refusal : (r : Refusal) {out : List ℕ} {o : Reported} → o ≡ refused (number_of r) out → Gave (told_in (Err r)) out o
refusal r e = rw e (record { result = refl; out = refl })

-- ---- day: a day on the calendar, and its start as it is stored
pub day_in_lem : (ix : List ℕ) (d : ℕ) (out : List ℕ) → is_day d ≡ true → day_in ix d out ≡ question (numbers ix) (firsts ix) (lasts ix) d d out
day_in_lem ix d out e = unfold day_of in rw (e, day_of)

module _ (d : ℕ) {t : Bool} (e : t ≡ is_day d) (f : not t ≡ false) where
  on_it : (1 ≤ d) × (d ≤ 4000)
  on_it = dated d (on e f)

  module _ {x : ℕ} (z : x ≡ d) where
    pub day_word : x + start_table < 21306
    day_word = omega (arith, on_it)

    module _ {ix : List ℕ} (b : Built ix) {m : ℕ} (u : m ≡ get_or ix (x + start_table) 0) where
      stored : m ≡ start (firsts ix) (lasts ix) d d
      stored = u ∙ rw z ((built_holds ix b).starts d on_it.1)

      pub day_asks : WalkAsks ix d m
      day_asks = asks_walk b d on_it.0 stored

      pub day_gives : (out : List ℕ) {after : List ℕ} {a r : Told} → Gave a after (listed_of ix d m out) → r ≡ a → Gave r after (day_in ix d out)
      day_gives out = gives b d on_it.0 stored out (day_in_lem ix d out (on e f))

-- ---- span: m is the latest by day b and r the start of day a, as they are stored
module _ {ix : List ℕ} (built : Built ix) {a b : ℕ} (forward : a ≤ b) (late : b ≤ 4000) {x m : ℕ} (z : x ≡ b) (u : m ≡ get_or ix (x + latest_table) 0) where
  m_is : m ≡ latest (firsts ix) (lasts ix) b
  m_is = u ∙ rw z ((built_holds ix built).begun b late)

  m_in : m ≤ length (firsts ix)
  m_in = rw m_is (latest_is (firsts ix) (lasts ix) (built_holds ix built).sorted b).within

  pub begun_word : (n k : ℕ) → m ≢ 0 → n + 1024 ≤ k → m - 1 + n < k
  begun_word n k h i = omega (arith, m_in, (built_holds ix built).few)

  module _ {y r : ℕ} (z' : y ≡ a) (u' : r ≡ get_or ix (y + start_table) 0) where
    span_is : start (firsts ix) (lasts ix) b a ≡ span_start (firsts ix) (lasts ix) a m r
    span_is = let r-is : r ≡ start (firsts ix) (lasts ix) a a = u' ∙ rw z' ((built_holds ix built).starts a (omega arith)) in
        start_span (firsts ix) (lasts ix) (built_holds ix built).sorted (built_holds ix built).forward a b forward ∙ rw (m_is, r-is)

    pub span_none : m ≡ 0 → r ≡ start_of ix b a
    span_none k = unfold span_start in sym (span_is ∙ rw k)

    module _ (some : m ≢ 0) where
      fact : (get_or ix (m - 1 + first_column) 0 ≡ day_at (firsts ix) (m - 1)) × (m ≡ suc (m - 1))
      fact = ((built_holds ix built).firsts (m - 1) (omega (arith, m_in)), omega arith)

      pub span_before : get_or ix (m - 1 + first_column) 0 < a → r ≡ start_of ix b a
      span_before h = unfold span_start in sym (span_is ∙ rw (fact.1, lt-leb a (day_at (firsts ix) (m - 1)) (rw fact.0 at h), span_start))

      pub span_within : a ≤ get_or ix (m - 1 + first_column) 0 → m ≡ start_of ix b a
      span_within h = unfold span_start in sym (span_is ∙ rw (fact.1, le-leb a (day_at (firsts ix) (m - 1)) (rw fact.0 at h), span_start))

module _ (a b : ℕ) {t : Bool} (e : t ≡ is_day a) (f : not t ≡ false) where
  pub span_asks : {ix : List ℕ} → Built ix → {m : ℕ} → m ≡ start_of ix b a → WalkAsks ix a m
  span_asks built = asks_walk built b (dated a (on e f)).0

  pub span_gives : {t' : Bool} → t' ≡ is_day b → not t' ≡ false → a ≤ b → {ix : List ℕ} → Built ix → {m : ℕ} → m ≡ start_of ix b a → (out : List ℕ) {after : List ℕ} {s r : Told} → Gave s after (listed_of ix a m out) → r ≡ s → Gave r after (span_in ix a b out)
  span_gives e' f' h built z out = unfold span_of in gives built b (dated a (on e f)).0 z out (rw (on e f, on e' f', span_of) (rw (le-leb a b h, span_of)))

-- ---- cover: the mark n of the row with the number x
module _ (ix : List ℕ) (x : ℕ) {n : ℕ} (e : n ≡ mark_in ix x) (some : n ≢ 0) (b : Built ix) where
  within : n - 1 < length (firsts ix)
  within = let w : mark_in ix x ≤ length (firsts ix) = unfold named in (below_is _ (length (firsts ix))).within in omega arith

  l_is : get_or ix (n - 1 + last_column) 0 ≡ day_at (lasts ix) (n - 1)
  l_is = (built_holds ix b).lasts (n - 1) within

  module _ {f : ℕ} (z : f ≡ get_or ix (n - 1 + first_column) 0) where
    f_is : f ≡ day_at (firsts ix) (n - 1)
    f_is = z ∙ (built_holds ix b).firsts (n - 1) within

    first_in : f ≤ 4000
    first_in = omega (arith, f_is, (built_holds ix b).ends (n - 1) within, (built_holds ix b).forward (n - 1) within)

    pub first_word : (w : ℕ) → 18242 ≤ w → f + latest_table < w
    first_word w i = omega (arith, first_in)

    module _ {m : ℕ} (u : m ≡ get_or ix (f + latest_table) 0) where
      dates : 1 ≤ get_or ix (n - 1 + last_column) 0
      dates = omega (arith, l_is, (built_holds ix b).begins (n - 1) within, (built_holds ix b).forward (n - 1) within)

      begun : m ≡ start (firsts ix) (lasts ix) f (get_or ix (n - 1 + last_column) 0)
      begun = u ∙ (built_holds ix b).begun f first_in ∙ rw (f_is, l_is) (sym (cover_latest (firsts ix) (lasts ix) (built_holds ix b).sorted (n - 1) within))

      pub cover_asks : WalkAsks ix (get_or ix (n - 1 + last_column) 0) m
      cover_asks = asks_walk b f dates begun

      pub cover_gives : (out : List ℕ) {after : List ℕ} {s r : Told} → Gave s after (listed_of ix (get_or ix (n - 1 + last_column) 0) m out) → r ≡ s → Gave r after (cover_in ix x out)
      cover_gives out = unfold cover_of covering in let i : mark_in ix x ≡ suc (n - 1) = sym e ∙ omega arith in
          gives b f dates begun out (ap (λ (u : ℕ). covering (numbers ix) (firsts ix) (lasts ix) u out) i ∙ rw (f_is, l_is))
