-- The index of a published list: its rows can be published, each number leads to its own row, what the index shows, what publish makes of
-- it by whether there is such a rule, and that rows which hold the fields of spells, put in the order, are the rows of the sorted list.
-- Assumes nothing.
use Rattle.basis.proofs.Prelude.{◌∙◌, ◌≡◌, ap, refl, sym, ◌<◌, ◌≤◌, suc, zero, ℕ, List, List-as-Memᴰ, List·Memᴰ·head, List·Memᴰ·tail, [], ◌∷◌, map, Bool, cond, false, not, true, ◌⊎◌, inl, inr, eqb, ltb, List·getD-append, List·getD-map, get_or, zero-add, length, length-map, take_all, arith, eq-eqb, eqb-true, le-leb, le-ltb, lt-ltb, not-false, not-true, both, by_test}
use Rattle.columns.{specs.Columns.positions, proofs.Filling.{positions_at, positions_length, positions_below, reads}}
use Rattle.orders.{specs.Orders.{lexical, sorted_by}, proofs.{Each.{map_same, map-map, map_at}, Sorting.{each_sorted, sorted_map, sorted_same}}}
use Rattle.refusal.specs.Table.{accepted, no_such_rule}
use Rattle.row_order.{specs.{Arranged.{by_minor, by_both, arranged}, Rows.{row_key, key_at, row_keys, row_order, arranged_column}}, proofs.{Orders.{by_major, by_place}, Keys.key_decides}}
use Rattle.rules.specs.Rules.{is_rule}
use Rattle.spell.{specs.{declared.Spell.Spell, Blank.blank, Order.{listed_before, ordered_by}, Listing.{distinct, Each, Sound, OrderlyBy}}, proofs.{Entered.entered, Listing.{alone, stands_none}, Order.{each_member, listed_days}}}
use Rattle.spell_places.specs.List.{column_of, LaidOut}
use Rattle.stabbing.{specs.Index.{row_ok, may_follow, rows_after, rows_ok, named, numbers, firsts, lasts, Built}, proofs.Marks.below_own}
use Rattle.stabbing.proofs.Block as block
use Rattle.model.specs.{Questions.{firsts_of, lasts_of}, Publishing.published_of}
use Rattle.published_index.specs.Index.{index_of, rule_refusal, index_by, Shows, Published}

-- ---- The columns of a list in the order of the answers can be published

row_right : (s : Spell) → Sound s → row_ok s.first s.last ≡ true
row_right s g = let e = entered s g.entered in search le-leb

may_follow_lem : (f l g m : ℕ) → (f < g) ⊎ ((f ≡ g) × (l ≤ m)) → may_follow f l g m ≡ true
may_follow_lem f l g m (inl h) = rw (lt-ltb f g h)
may_follow_lem f l g m (inr h) = rw (le-ltb f g (omega arith), eq-eqb f g h.0, le-leb l m h.1)

-- each spell after one with the days f and l
rows_after_lem : (f l : ℕ) (x : Spell) (p : List Spell) → may_follow f l x.first x.last ≡ true → Each Sound (x ∷ p) → ordered_by listed_before (x ∷ p) ≡ true
    → rows_after f l (firsts_of (x ∷ p)) (lasts_of (x ∷ p)) ≡ true
unfolding rows_after Each ordered_by
rows_after_lem f l x [] h s o = rw (row_right x s.0, h)
rows_after_lem f l x (y ∷ p) h s o =
    let b = both (listed_before x y) (ordered_by listed_before (y ∷ p)) o in
    rw (row_right x s.0, h) (rows_after_lem x.first x.last y p (may_follow_lem _ _ _ _ (listed_days x y b.0)) s.1 b.1)

pub rows_ok_lem : (p : List Spell) → OrderlyBy listed_before Sound p → rows_ok (firsts_of p) (lasts_of p) ≡ true
unfolding Each
rows_ok_lem [] g = unfold rows_after in refl
rows_ok_lem (x ∷ p) g =
    rows_after_lem 0 0 x p (may_follow_lem 0 0 x.first x.last (inl (entered x g.each.0.entered).first_up)) g.each g.in_order

-- ---- Each number of a list with unique numbers leads to its own row

abbrev pub numbers_of : List Spell → List ℕ
numbers_of p = map (λ (s : Spell). s.number) p

pub number_at : (l : List Spell) (i : ℕ) → get_or (numbers_of l) i 0 ≡ (get_or l i blank).number
number_at l i = List·getD-map (λ (s : Spell). s.number) l i blank

pub in_at : (l : List Spell) (i : ℕ) → i < length l → List-as-Memᴰ (get_or l i blank) l
in_at [] i h = absurd (omega arith)
in_at (x ∷ l) zero h = List·Memᴰ·head refl
in_at (x ∷ l) (suc i) h = List·Memᴰ·tail (in_at l i (omega arith))

-- unique numbers differ at different places
pub differ : (l : List Spell) → distinct l ≡ true → (i j : ℕ) → j < i → i < length l → (get_or l j blank).number ≡ (get_or l i blank).number → ⊥
differ [] d i j h k e = omega arith
differ (x ∷ l) d zero j h k e = omega arith
differ (x ∷ l) d (suc i) zero h k e = stands_none l x.number (alone x l d).0 _ (in_at l i (omega arith)) (sym e)
differ (x ∷ l) d (suc i) (suc j) h k e = differ l (alone x l d).1 i j (omega arith) (omega arith) e

pub own : (l : List Spell) → distinct l ≡ true → (p : ℕ) → p < length (firsts_of l)
    → named (numbers_of l) (firsts_of l) (lasts_of l) (get_or (numbers_of l) p 0) ≡ suc p
unfolding named
own l d = below_own (numbers_of l) (length (firsts_of l)) (λ i j h k e.
    differ l d i j h (omega (arith, k, length-map l (λ (s : Spell). s.first))) (sym (number_at l j) ∙ e ∙ number_at l i))

-- ---- The rows of an index are those of the list that it shows

module _ {ix : List ℕ} {p : List Spell} (s : Shows ix p) where
  same : length (numbers_of p) ≡ length (firsts_of p)
  same = length-map p _ ∙ sym (length-map p _)

  few : length (firsts_of p) ≤ 1024
  few = omega (arith, length-map p (λ (x : Spell). x.first), s.good.few)

  pub shows_built : Built ix
  shows_built = rw s.index (block.built_of (numbers_of p) (firsts_of p) (lasts_of p) few (rows_ok_lem p s.good) same (own p s.good.unique))

  pub shows_rows : (numbers ix ≡ numbers_of p) × (firsts ix ≡ firsts_of p) × (lasts ix ≡ lasts_of p)
  shows_rows = rw s.index (let ok = rows_ok_lem p s.good in
      (block.numbers_are _ _ _ few ok same, block.firsts_are (numbers_of p) _ _ few ok same, block.lasts_are (numbers_of p) _ _ few ok same))

-- an index that the calls gave is one that publish built
pub published_built : {ix : List ℕ} → Published ix → Built ix
published_built g = shows_built g.shows

-- ---- Publish by a rule: 14, and the index stays; or the index is that of the list as the rule publishes it

module _ (rule : ℕ) (l : List Spell) (ix : List ℕ) {b : Bool} (tested : b ≡ is_rule rule) where
  pub no_rule : not b ≡ true → (no_such_rule ≡ rule_refusal rule) × (ix ≡ index_by rule l ix)
  no_rule z = rw (sym tested ∙ not-true b z) (refl, refl)

  pub by_rule : not b ≡ false → {ix' : List ℕ} → ix' ≡ index_of (published_of rule l) → (accepted ≡ rule_refusal rule) × (ix' ≡ index_by rule l ix)
  by_rule z e = rw (sym tested ∙ not-false b z) (refl, e)

-- ---- Rows that hold the fields of spells, put in the order, are the rows of the sorted list

-- a spell of the list, by position
abbrev row : List Spell → ℕ → Spell
row l p = get_or l p blank

-- a column holds a field of the spells, in its first places
pub holds : (f : Spell → ℕ) (l : List Spell) (before : List ℕ) {after : List ℕ} → after ≡ column_of f l before
    → (p : ℕ) → p < length l → get_or after p 0 ≡ f (row l p)
holds f l before e p h = rw e (List·getD-append (map f l) _ 0 p (omega (arith, length-map l f)) ∙ map_at f l p blank 0 h)

module _ (l : List Spell) (sound : Each Sound l) (unique : distinct l ≡ true)
    {r : ℕ} {ns cs fs ls ns' cs' fs' ls' : List ℕ} (laid : LaidOut l r ns cs fs ls ns' cs' fs' ls') where
  abbrev n : ℕ
  n = length l

  keys_are : (p : ℕ) → p < n → get_or (row_keys cs' fs' ls' n) p 0 ≡ row_key ((row l p).first) ((row l p).last) ((row l p).candidate)
  keys_are p h =
      map_at (key_at cs' fs' ls') (positions 0 n) p 0 0 (omega (arith, positions_length 0 n)) ∙ rw (positions_at 0 n p h, zero-add p)
      (rw (holds _ l _ laid.first p h, holds _ l _ laid.last p h, holds _ l _ laid.candidate p h))

  -- last day and candidate have 16 bits
  short : (p : ℕ) → p < n → ((row l p).last < 65536) × ((row l p).candidate < 65536)
  short p h =
      let s = each_member Sound l (row l p) sound (in_at l p h) in
      (omega (arith, (entered (row l p) s.entered).last_day_fits), omega (arith, s.named))

  -- two spells of one number are one
  by_number : (p q : ℕ) → p < n → q < n → by_minor ns' p q ≡ cond (eqb ((row l p).number) ((row l q).number)) false (ltb ((row l p).number) ((row l q).number))
  by_number p q h k = by_place ns' p q ∙ rw (holds _ l _ laid.number p h, holds _ l _ laid.number q k)
      (by_test (eqb ((row l p).number) ((row l q).number)) (λ e. rw e (le-ltb p q (
      let no : p < q → ⊥ = λ lt. differ l unique q p lt k (eqb-true _ _ e) in omega arith))) (λ e. rw e))

  agree : (p q : ℕ) → p < n → q < n → by_both (row_keys cs' fs' ls' n) ns' p q ≡ listed_before (row l p) (row l q)
  unfolding listed_before lexical
  agree p q h k =
      by_major (row_keys cs' fs' ls' n) ns' p q
      ∙ rw (keys_are p h, keys_are q k, by_number p q h k) (key_decides _ _ _ _ _ _ _ (short p h) (short q k))

  rows_are : map (row l) (row_order ns' cs' fs' ls' n) ≡ sorted_by listed_before l
  unfolding row_order arranged
  rows_are =
      ap (map (row l)) (sorted_same (by_both (row_keys cs' fs' ls' n) ns') (λ p q. listed_before (row l p) (row l q)) (λ p. p < n) agree (positions 0 n) (positions_below n))
      ∙ sym (sorted_map listed_before (row l) (positions 0 n))
      ∙ ap (sorted_by listed_before) (reads blank l n (omega arith) ∙ take_all n l (omega arith))

  -- a column of the rows, in the order
  pub column_is : (f : Spell → ℕ) (before : List ℕ) {c : List ℕ} → c ≡ column_of f l before → arranged_column ns' cs' fs' ls' n c ≡ map f (sorted_by listed_before l)
  column_is f before {c} e =
      map_same (λ p. get_or c p 0) (λ p. f (row l p)) (λ p. p < n) (holds f l before e) (row_order ns' cs' fs' ls' n)
      (unfold row_order arranged in each_sorted (by_both (row_keys cs' fs' ls' n) ns') (λ p. p < n) (positions 0 n) (positions_below n))
      ∙ sym (map-map f (row l) (row_order ns' cs' fs' ls' n))
      ∙ ap (map f) rows_are
