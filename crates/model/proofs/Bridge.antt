-- Positions and rows: the positions that pass a test lead to the rows that pass the same test. Assumes nothing.
use Rattle.basis.proofs.Prelude.{◌∙◌, ◌≡◌, ap, refl, ◌*◌, ◌<◌, ◌≤◌, suc, zero, ℕ, List, [], ◌++◌, ◌∷◌, append_assoc, map, map-append, Bool, cond, List·getD-map, get_or, length, length-map, arith, by_test}
use Rattle.orders.proofs.Each.{map-map}
use Rattle.model.proofs.Names.{Spell, blank, keep, fits_at, start, keep_hit, keep_miss, formula_le, reaches, filter, listed, firsts_of, lasts_of, comparisons_of}

-- ---- The positions that pass, from the front: position 0, and the others one further

keep_front : (u : ℕ → Bool) (n : ℕ) → keep u (suc n) ≡ cond (u 0) (0 ∷ []) [] ++ map suc (keep (λ k. u (suc k)) n)
unfolding keep
keep_front u zero = by_test (u 0) (λ e. keep_hit u 0 e ∙ rw e) (λ e. keep_miss u 0 e ∙ rw e)
keep_front u (suc n) = by_test (u (suc n))
    (λ e. rw (keep_hit u (suc n) e, keep_front u n, keep_hit (λ k. u (suc k)) n e, map-append, append_assoc))
    (λ e. rw (keep_miss u (suc n) e, keep_miss (λ k. u (suc k)) n e) (keep_front u n))

-- ---- The bridge

-- the test u on positions is the test t on the rows
abbrev pub Agree : (ℕ → Bool) → (Spell → Bool) → List Spell → Type 0
Agree u t p = (k : ℕ) → k < length p → u k ≡ t (get_or p k blank)

-- a column at the positions that pass is the column of the rows that pass
pub rows_kept : (f : Spell → ℕ) (u : ℕ → Bool) (t : Spell → Bool) (p : List Spell) → Agree u t p
    → map (λ k. get_or (map f p) k 0) (keep u (length p)) ≡ map f (filter t p)
unfolding keep filter
rows_kept f u t [] h = refl
rows_kept f u t (x ∷ p) h =
    rw (keep_front u (length p), map-append, map-map, h 0 (omega arith), rows_kept f (λ k. u (suc k)) t p (λ k b. h (suc k) (omega arith)))
    (by_test (t x) (λ e. rw e) (λ e. rw e))

-- ---- The test of day, span and cover

pub fits_agree : (h l : ℕ) (p : List Spell) → Agree (fits_at (firsts_of p) (lasts_of p) h l) (reaches h l) p
fits_agree h l p k _ = unfold fits_at in rw (List·getD-map (λ s. s.first) p k blank, List·getD-map (λ s. s.last) p k blank)

-- the looks of a question are at most three for each spell listed
pub comparisons_le : (h l : ℕ) (p : List Spell) → comparisons_of h l p ≤ 3 * length (listed (reaches h l) p)
comparisons_le h l p = unfold comparisons_of in
    let u = fits_at (firsts_of p) (lasts_of p) h l in
    let few = formula_le (firsts_of p) (lasts_of p) (start (firsts_of p) (lasts_of p) h l) (keep u (length p)) in
    let rows = rows_kept (λ (s : Spell). s.number) u (reaches h l) p (fits_agree h l p) in
    simp length-map (omega (arith, simp length-map at (ap length rows)))
