-- The rows of a list that lie past the first m, found by halving, and moved to the front: the steps of `skip`, apart from the code. Assumes
-- nothing.
use Rattle.basis.proofs.Prelude.{◌∙◌, ◌≡◌, ap, refl, sym, ◌-◌, ◌<◌, ◌≤◌, suc, zero, zero-le, ℕ, List, [], ◌++◌, ◌∷◌, map, Bool, true, false, ◌&&◌, leb, ltb, List·getD-append, drop, get_or, length, length-append, length-map, drop_at, drop-cons, get_or-append-add, le_refl, add-zero, arith, le-ltb, leb-true, leb-false, get_or_at, lt-ltb, ltb-true, both, by_eq, append_assoc, length-drop, take, take-append-drop, drop-append-le, length-take-le}
use Rattle.std.specs.List.{IsLastAndRest, Sorted.{IsPartitionedBy, IsPartitionPoint}}
use Rattle.std.proofs.lemmas.List.Sorted.{IsNonDecreasingBy-from_default, IsPartitionedBy-leb}
use Rattle.buffer.{specs.Buffer.overlaid, proofs.Overlaid.overlaid_all}
use Rattle.stabbing.{specs.Tree.keep, specs.Clauses.from, proofs.Days.keep_parts, proofs.Listing.lists, specs.Index.{Built, firsts, mark_in}, proofs.Block.{built_holds, leads_back}}
use Rattle.stabbing_query.specs.Clauses.{numbered}
use Rattle.stabbing_days.specs.Clauses.{InRows, Parted, Skips}

-- ---- What is parted

-- the place r is where a list's parts meet, of which the first is below m and the second is not
meets : (m r : ℕ) (us vs : List ℕ) → ((k : ℕ) → k < length us → get_or us k 0 < m) → ((k : ℕ) → k < length vs → m ≤ get_or vs k 0) → Parted m r (us ++ vs) → r ≡ length us
meets m r us vs low high q = let l = length-append us vs in
    let first = rw add-zero at (get_or-append-add us vs 0 0) in
    let n₁ : r < length us → ⊥ = λ h. omega (arith, low r h, List·getD-append us vs 0 r h, q.high r (le_refl r) (omega arith)) in
    let n₂ : length us < r → ⊥ = λ h. omega (arith, q.low (length us) h, high 0 (omega (arith, q.within))) in omega arith

-- of the positions that pass a test, those from the place r on are those from m on
pub rest_from : (t : ℕ → Bool) (m n r : ℕ) → Parted m r (keep t n) → drop r (keep t n) ≡ keep (from m t) n
rest_from t m n r q = let a : ℕ → Bool = λ p. ltb p m && t p in
    let parts = keep_parts t a t m n (λ p h. rw (lt-ltb p m h)) (λ p h _. rw (le-ltb p m h)) (λ p _ _. refl) in
    let place = meets m r (keep a n) (keep (from m t) n)
    (λ k h. ltb-true _ m (both (ltb (get_or (keep a n) k 0) m) _ ((lists a n).passes k h).1).0)
    (λ k h. leb-true m _ (both (leb m (get_or (keep (from m t) n) k 0)) _ ((lists (from m t) n).passes k h).1).0) (rw parts at q) in
    rw parts (drop_at (keep a n) (keep (from m t) n) r (sym place))

-- ---- The steps of `skip`

pub drop_map : (f : ℕ → ℕ) (n : ℕ) (xs : List ℕ) → drop n (map f xs) ≡ map f (drop n xs)
drop_map f zero xs = refl
drop_map f (suc n) [] = refl
drop_map f (suc n) (x ∷ xs) = drop_map f n xs

get_d_map : (f : ℕ → ℕ) (ps : List ℕ) (k : ℕ) → k < length ps → get_or (map f ps) k 0 ≡ f (get_or ps k 0)
get_d_map f ps k h = cc (drop_map f k ps, drop-cons (map f ps) k 0 (rw length-map h), drop-cons ps k 0 h)

long : (ix ps : List ℕ) {xs : List ℕ} → xs ≡ numbered ix ps → length ps ≡ length xs
long ix ps e = sym (length-map ps (λ (p : ℕ). get_or ix p 0)) ∙ ap length (sym e)

-- rising positions rise from any place to any later one
rising : {ix ps : List ℕ} → InRows ix ps → (i j : ℕ) → i ≤ j → j < length ps → get_or ps i 0 ≤ get_or ps j 0
rising r i zero h g = let z : i ≡ 0 = omega arith in rw z (le_refl _)
rising r i (suc j) h g = by_eq i (suc j) h (λ z. rw z (le_refl _)) (λ lt. omega (arith, rising r i j (omega arith) (omega arith), r.rises j g))

pub all_new : (ix xs : List ℕ) {m : ℕ} → m ≡ 0 → Skips ix xs m 0
all_new ix xs z = record { skips = λ ps r e. record { within = zero-le; low = λ k h. absurd (omega arith); high = λ k _ _. omega arith } }

pub none_found : (ix xs : List ℕ) {m : ℕ} → length xs ≡ 0 → Skips ix xs m 0
none_found ix xs z = record { skips = λ ps r e. record { within = zero-le; low = λ k h. absurd (omega arith); high = λ k _ h. absurd (omega (arith, long ix ps e)) } }

-- whether the row with that number is one of the first m
abbrev pub early : List ℕ → ℕ → ℕ → Bool
early ix m x = leb (mark_in ix x) m

-- the last row found is x, and the others are ys
module _ {ix : List ℕ} (b : Built ix) {xs : List ℕ} (ys : List ℕ) (x : ℕ) (s : IsLastAndRest xs x ys) where
  module _ {ps : List ℕ} (r : InRows ix ps) (e : xs ≡ numbered ix ps) where
    -- each row's mark, by its number
    mark_at : (j : ℕ) → j < length ps → mark_in ix (get_or xs j 0) ≡ suc (get_or ps j 0)
    mark_at j h = let p : get_or ps j 0 < length (firsts ix) = r.inside j h in
        ap (mark_in ix) (rw e (get_d_map (λ (q : ℕ). get_or ix q 0) ps j h) ∙ (built_holds ix b).numbers (get_or ps j 0) p) ∙ leads_back ix b (get_or ps j 0) p

    as_long : length ps ≡ suc (length ys)
    as_long = omega (arith, long ix ps e, s.1)

    mark_last : mark_in ix x ≡ suc (get_or ps (length ys) 0)
    mark_last = let z : get_or xs (length ys) 0 ≡ x = rw s.0 (get_or_at ys x [] 0 (length ys) refl) in
        rw z at (mark_at (length ys) (omega (arith, as_long)))

    mark_earlier : (j : ℕ) → j < length ys → mark_in ix (get_or ys j 0) ≡ suc (get_or ps j 0)
    mark_earlier j h = let z : get_or xs j 0 ≡ get_or ys j 0 = rw s.0 (List·getD-append ys (x ∷ []) 0 j h) in
        rw z at (mark_at j (omega (arith, as_long)))

    parts : (m : ℕ) → IsPartitionedBy (early ix m) ys
    parts m = IsPartitionedBy-leb (mark_in ix) ys m (IsNonDecreasingBy-from_default (mark_in ix) ys 0
        (λ i j h g. omega (arith, mark_earlier i (omega arith), mark_earlier j g, rising r i j h (omega (arith, as_long)))))

  module _ {m n : ℕ} (z : n ≡ mark_in ix x) where
    pub all_old : n ≤ m → Skips ix xs m (length xs)
    all_old h = record {
      skips = λ ps r e. record {
        within = omega (arith, long ix ps e);
        low = λ k g. omega (arith, mark_last r e, as_long r e, rising r k (length ys) (omega (arith, s.1)) (omega (arith, as_long r e)));
        high = λ k g l. absurd (omega (arith, long ix ps e));
      };
    }

    -- the earlier rows part at the place i
    pub parted_at : m < n → {i : ℕ} → i ≤ length ys → (IsPartitionedBy (early ix m) ys → IsPartitionPoint (λ y. early ix m y ≡ true) (λ y. early ix m y ≡ false) ys i) → Skips ix xs m i
    parted_at h {i} w p = record {
      skips = λ ps r e. let q = p (parts r e m) in record {
        within = omega (arith, as_long r e);
        low = λ k g. omega (arith, mark_earlier r e k (omega arith), leb-true (mark_in ix (get_or ys k 0)) m (q.0 k 0 zero-le g));
        high = λ k g l. by_eq k (length ys) (omega (arith, as_long r e))
            (λ o. rw o (omega (arith, mark_last r e)))
            (λ lt. omega (arith, mark_earlier r e k lt, leb-false (mark_in ix (get_or ys k 0)) m (q.1 k 0 g lt)));
      };
    }

-- where the first k of the numbers xs are the finds: with the gap closed, the finds from f on stand first, and the later places are as
-- they were
pub closed : (xs : List ℕ) (k f : ℕ) → k ≤ length xs → f ≤ k → overlaid (drop f (take k xs)) (take k xs) ++ drop k xs ≡ drop f (take k xs) ++ drop (k - f) xs
closed xs k f h z = let ns : List ℕ = take k xs in
    let l : length ns ≡ k = length-take-le k xs h in
    let n : length (drop f ns) ≡ k - f = length-drop f ns ∙ omega (arith, l) in
    rw (overlaid_all (drop f ns) ns (omega (arith, n, l)), n, append_assoc, ← drop-append-le (k - f) ns (drop k xs) (omega (arith, l)), take-append-drop)
