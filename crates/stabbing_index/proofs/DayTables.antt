-- The steps of the tables by day, apart from the code. Assumes nothing.
use Rattle.stabbing_index.proofs.{Laying.{grown_none, grow_set, grow_skip}, Links.climb_at, Names.{rules, ◌∙◌, ◌≡◌, sym, ◌+◌, ◌<◌, ◌≤◌, ℕ, List, ◌≢◌, leb, get_or, length, replicate, set, arith, le-leb, leb-true, both, by_mark, day_count, Way, below, day_at, head, start, Sorted, latest, below_is, below_skip, below_hit, latest_is, latest_before, lasts_to, nearest_is, start_nearest, ClimbAt, Climbed, Dayed, AdvanceAt, DaysAt, DayAt}}
use Rattle.stabbing.proofs.{Walk.start_is, Days.{latest_after, latest_rises, latest_none}, Block.rows_days}

module _ (fs ls : List ℕ) (sorted : Sorted fs ls) where
  -- the start of a day, from the latest that begins by it
  start_below : (d : ℕ) → start fs ls d d ≡ below (lasts_to fs ls d) (latest fs ls d)
  start_below d = let i = latest_is fs ls sorted d in
      start_nearest fs ls sorted d d ∙ nearest_is fs ls sorted d (length fs) (latest fs ls d) i.within (λ v z. (i.hit v z).0)

  -- where no row begins on day d + 1, its start is the nearest that lasts to it from the start of day d upward
  start_next : (d : ℕ) → latest fs ls (d + 1) ≡ latest fs ls d → start fs ls (d + 1) (d + 1) ≡ below (lasts_to fs ls (d + 1)) (start fs ls d d)
  start_next d e = let m = latest fs ls d in let s = below (lasts_to fs ls d) m in let b = below_is (lasts_to fs ls d) m in
      rw (start_below (d + 1), e, start_below d) (below_skip (lasts_to fs ls (d + 1)) s m b.within (λ x g h z. let p = both (head fs ls x) (leb (d + 1) (day_at ls x)) z in
      b.miss x g h (rw (p.0, le-leb d (day_at ls x) (omega (arith, leb-true (d + 1) (day_at ls x) p.1))))))

module _ {xs ys fs ls : List ℕ} {n d m : ℕ} (q : AdvanceAt xs ys fs ls n d m) where
  pub at_end : n ≤ m → m ≡ latest fs ls d
  at_end h = omega (arith, q.below, (latest_is fs ls q.columns.sorted d).within, q.columns.count)

  module _ {r : ℕ} (h : m < n) (e : r ≡ get_or xs m 0) where
    pub stops : d < r → m ≡ latest fs ls d
    stops k = let f = q.columns.firsts m h in let n : m < latest fs ls d → ⊥ = λ l. omega (arith, latest_before fs ls q.columns.sorted d m l) in omega (arith, q.below)

    pub goes : r ≤ d → AdvanceAt xs ys fs ls n d (m + 1)
    goes k = let f = q.columns.firsts m h in
        let n : latest fs ls d ≤ m → ⊥ = λ l. omega (arith, latest_after fs ls q.columns.sorted d m l (rw q.columns.count h)) in search arith

module _ {xs ys fs ls : List ℕ} {n : ℕ} {ps : List ℕ} {d m e s : ℕ} (q : DayAt xs ys fs ls n ps d m e s) where
  -- a head begins on the day
  pub begins_here : m ≢ e → e ≡ start fs ls (d + 1) (d + 1)
  begins_here ne = let i = latest_is fs ls q.rows.columns.sorted (d + 1) in let l = latest_rises fs ls q.rows.columns.sorted d (d + 1) (omega arith) in by_mark e
      (λ z. absurd (ne (omega (arith, q.m_is, q.e_is))))
      (λ v z.
      let hit = i.hit v (sym q.e_is ∙ z) in
      let v-in : v < length fs = omega (arith, i.within, q.e_is) in
      let first : d < day_at fs v = (latest_is fs ls q.rows.columns.sorted d).miss v (omega (arith, q.m_is, q.e_is, ne)) v-in hit.0 in
      z ∙ sym (rw (start_below fs ls q.rows.columns.sorted (d + 1), sym q.e_is ∙ z)
      (below_hit (lasts_to fs ls (d + 1)) v (rw (hit.0, le-leb (d + 1) (day_at ls v) (omega (arith, (rows_days fs ls q.rows.in_order v v-in).1)))))))

  -- none does
  pub asks_climb : ClimbAt xs ys fs ls n ps s
  asks_climb = let i = start_is fs ls q.rows.columns.sorted d d in climb_at q.rows.columns q.s_in q.s_in (λ v z. (i.hit v (sym q.s_is ∙ z)).0) q.rows.parents

  pub from_before : m ≡ e → {w : Way} → Climbed fs ls (d + 1) s 0 w → w.parent ≡ start fs ls (d + 1) (d + 1)
  from_before z g = g.parent ∙ rw q.s_is (sym (start_next fs ls q.rows.columns.sorted d (sym q.e_is ∙ sym z ∙ q.m_is)))

-- ---- the tables, day after day: those of the days up to d, of which m is the latest and s the start
pub record Tabling (xs ys fs ls : List ℕ) (n : ℕ) (ps ss bs : List ℕ) (d m s : ℕ) : Type 0 where
  pub rows : DaysAt xs ys fs ls n ps
  pub tables : Dayed fs ls ss bs (d + 1)
  pub m_is : m ≡ latest fs ls d
  pub m_in : m ≤ n
  pub s_is : s ≡ start fs ls d d
  pub s_in : s ≤ n
  pub within : d ≤ 4000

pub undayed : {fs ls : List ℕ} (size : ℕ) → size ≡ 4001 → Dayed fs ls (replicate size 0) (replicate size 0) 0
undayed size e = record { starts = grown_none size e; begun = grown_none size e }

pub starts : {xs ys fs ls : List ℕ} {n : ℕ} {ps ss bs : List ℕ} → DaysAt xs ys fs ls n ps → Dayed fs ls ss bs 0 → Tabling xs ys fs ls n ps ss bs 0 0 0
starts {fs = fs} {ls} q t =
    let m_is : 0 ≡ latest fs ls 0 = sym (latest_none fs ls q.columns.sorted (λ p h. (rows_days fs ls q.in_order p h).0)) in
    let s_is : 0 ≡ start fs ls 0 0 = by_mark (start fs ls 0 0) sym (λ v z. let i = start_is fs ls q.columns.sorted 0 0 in
    absurd (omega (arith, (i.hit v z).1, (rows_days fs ls q.in_order v (omega (arith, i.within))).0))) in
    let starts = grow_skip t.starts (sym s_is) in let begun = grow_skip t.begun (sym m_is) in search arith

module _ {xs ys fs ls : List ℕ} {n : ℕ} {ps ss bs : List ℕ} {d m s : ℕ} (i : Tabling xs ys fs ls n ps ss bs d m s) where
  pub all_days : 4000 ≤ d → Dayed fs ls ss bs day_count
  all_days h = let e : d + 1 ≡ day_count = omega (arith, i.within) in rw e at i.tables

  module _ (h : d < 4000) where
    pub asks_advance : AdvanceAt xs ys fs ls n (d + 1) m
    asks_advance = let below = latest_rises fs ls i.rows.columns.sorted d (d + 1) (omega arith) in let m = i.m_is in search arith

    pub next_day_lem : {e r : ℕ} → e ≡ latest fs ls (d + 1) → e ≤ n → r ≡ start fs ls (d + 1) (d + 1) → r ≤ n → Tabling xs ys fs ls n ps (set ss (d + 1) r) (set bs (d + 1) e) (d + 1) e r
    next_day_lem e_is e_in r-is r-in = let starts = grow_set i.tables.starts (omega arith) r-is in let begun = grow_set i.tables.begun (omega arith) e_is in search arith

pub ruleset steps = (at_end, stops, goes, begins_here, asks_climb, from_before, starts, all_days, asks_advance, next_day_lem, rules)
