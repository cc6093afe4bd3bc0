-- The walk lists what lasts to l, falling, and its comparisons are the formula's. Assumes nothing.
use Rattle.stabbing.proofs.{Links.{barren, bottom_is, c_child, chain_up, child_stretch, days_rise, last_is, left_is, next_none, next_some, own, parent_is, path_under, top}, Marks.{Found, below_hit, below_is, below_miss, count_last, count_le, keep_ext, keep_hit, keep_miss, keep_skip}, Names.{Bool, Head, List, Progress, Sorted, Stretch, [], ◌&&◌, ◌*◌, ◌++◌, ◌+◌, ◌<◌, ◌∙◌, ◌∷◌, ◌≡◌, ◌≤◌, ap, append_assoc, append-nil, arith, below, both, bottom, by_mark, by_test, chain, child, climb, compare, count, day_at, descend, eq-eqb, false, fits_at, formula, has_child, has_left, has_next, head, keep, last_child, le-leb, le_refl, leb, leb-false, leb-true, left_sibling, length, ne_eqb, next, nothing, on_path, one, parent, push, refl, some, start, suc, sym, tick, true, untrue, walk, zero, ℕ}}

module _ (fs ls : List ℕ) (l : ℕ) where
  abbrev pub reach : ℕ → Bool
  reach p = leb l (day_at ls p)

  pub compare_yes : (m p : ℕ) (go : ℕ → Progress → Progress) (s : Progress) → m ≡ suc p → reach p ≡ true → compare fs ls l m go s ≡ go p (tick s)
  compare_yes m p go s e r = unfold compare in rw e (rw (r, compare))

  pub compare_no : (m p : ℕ) (go : ℕ → Progress → Progress) (s : Progress) → m ≡ suc p → reach p ≡ false → compare fs ls l m go s ≡ tick s
  compare_no m p go s e r = unfold compare in rw e (rw (r, compare))

  pub climb_none : (f : ℕ) (s : Progress) → climb fs ls l f 0 s ≡ s
  climb_none f s = unfold climb in by_mark f (λ z. rw z) (λ p z. rw z)

module _ (fs ls : List ℕ) (sorted : Sorted fs ls) (l : ℕ) (on : ℕ → Bool) where
  -- what lasts to l below k, and the comparisons due for it
  abbrev pub upto : ℕ → List ℕ
  upto k = keep (reach fs ls l) k

  pub due : ℕ → ℕ
  due k = count (has_next fs ls) (upto k) + count (has_left fs ls) (upto k) + count (has_child fs ls on) (upto k)

  -- from hi down to lo, s has become s': all that lasts to l is listed, and all but e of the comparisons due, and e' more, are made
  pub record Went (hi : ℕ) (s : Progress) (lo : ℕ) (s' : Progress) (e e' : ℕ) : Type 0 where
    pub list : upto lo ++ s'.list ≡ upto hi ++ s.list
    pub comparisons : due lo + s'.comparisons + e ≡ due hi + s.comparisons + e'

  pub due_hit : (p : ℕ) → reach fs ls l p ≡ true → due (suc p) ≡ due p + one (has_next fs ls p) + (one (has_left fs ls p) + one (has_child fs ls on p))
  due_hit p e = unfold due in rw (keep_hit (reach fs ls l) p e) (omega (arith, count_last (has_next fs ls) (upto p) p, count_last (has_left fs ls) (upto p) p, count_last (has_child fs ls on) (upto p) p))

  pub due_miss : (p : ℕ) → reach fs ls l p ≡ false → due (suc p) ≡ due p
  due_miss p e = unfold due in rw (keep_miss (reach fs ls l) p e)

  upto_hit : (p : ℕ) (xs : List ℕ) → reach fs ls l p ≡ true → upto p ++ (p ∷ xs) ≡ upto (suc p) ++ xs
  upto_hit p xs e = rw (keep_hit (reach fs ls l) p e) (sym (append_assoc (upto p) (p ∷ []) xs))

  -- nothing lasts to l from lo up to hi
  skip : (lo hi : ℕ) → lo ≤ hi → ((x : ℕ) → lo ≤ x → x < hi → l ≤ day_at ls x → ⊥) → (upto hi ≡ upto lo) × (due hi ≡ due lo)
  skip lo hi h f = unfold due in let e : upto hi ≡ upto lo = keep_skip _ lo hi h (λ x a b t. f x a b (leb-true _ _ t)) in (e, rw e)

  -- the bottom of a chain
  bottom_went : (p : ℕ) (s : Progress) → next fs ls p ≡ 0 → reach fs ls l p ≡ true → Went (suc p) s p (push p s) (one (has_left fs ls p) + one (has_child fs ls on p)) 0
  bottom_went p s nx e = let k : one (has_next fs ls p) ≡ 0 = rw nx in let d = due_hit p e in search (upto_hit, arith)

  -- the chain from v down to its bottom; what is due for v as a head is left open
  pub chain_of_lem : (v : ℕ) (s : Progress) → v < length fs → reach fs ls l v ≡ true
      → Went (suc v) s (bottom fs ls v) (chain fs ls l v s) (one (has_left fs ls v) + one (has_child fs ls on v)) 0
  unfolding chain compare
  chain_of_lem zero s h e = unfold below next in bottom_went 0 s refl e
  chain_of_lem (suc p) s h e = by_test (head fs ls p)
      (λ hp. let nx = next_none fs ls p hp h in rw (below_hit (head fs ls) p hp, nx) (bottom_went (suc p) s nx e))
      (λ np.
      let nx = next_some fs ls p (omega arith) np in
      let k : one (has_next fs ls (suc p)) ≡ 1 = rw nx in
      let due₁ = due_hit (suc p) e in
      let new = upto_hit (suc p) s.list e in
      rw (below_miss (head fs ls) p np, nx) (by_test (reach fs ls l p)
      (λ r.
      let ih = chain_of_lem p (tick (push (suc p) s)) (omega arith) r in
      let none : one (has_left fs ls p) + one (has_child fs ls on p) ≡ 0 = rw np in
      rw (r, compare) (record { list = ih.list ∙ new; comparisons = omega arith }))
      (λ r.
      let i = bottom_is fs ls p in
      let d = skip (bottom fs ls p) (suc p) (omega arith) (λ x a b t. omega (
        arith,
        leb-false l (day_at ls p) r,
        chain_up fs ls sorted x p (omega arith) (omega arith) (λ y a' b'. untrue (head fs ls y) (i.miss y (omega arith) b')),
      )) in
      rw (r, compare) (record { list = rw (← d.0) new; comparisons = omega arith }))))

  -- what `descend f` does, as the fuel f is enough for the stretch
  abbrev pub Descends : ℕ → Type 0
  Descends f = (m v c : ℕ) (s : Progress) → Stretch fs ls m v → ((x : ℕ) → m ≤ x → x < v → Head fs ls x → on x ≡ false) → v ≤ m + f
      → child fs ls m v ≡ suc c → reach fs ls l c ≡ true → Went (bottom fs ls v) s m (descend fs ls l f c s) 0 0

  -- a comparison with the last child of a stretch, and what follows
  pub compare_went : (f : ℕ) → Descends f → (m v : ℕ) (s : Progress) → Stretch fs ls m v → ((x : ℕ) → m ≤ x → x < v → Head fs ls x → on x ≡ false) → v ≤ m + f
      → Went (bottom fs ls v) s m (compare fs ls l (child fs ls m v) (descend fs ls l f) s) 0 (one (some (child fs ls m v)))
  compare_went f ih m v s r off h = unfold compare in by_mark (child fs ls m v)
      (λ z. let d = none (λ c e. absurd (omega arith)) in rw z (record { list = rw d.0; comparisons = omega arith }))
      (λ c z. rw z (by_test (reach fs ls l c)
      (λ e. let w = ih m v c (tick s) r off h z e in rw (e, compare) (record { list = w.list; comparisons = omega arith }))
      (λ e.
      let d = none (λ c' e'. let q : c ≡ c' = omega arith in rw q at (leb-false l (day_at ls c) e)) in
      rw (e, compare) (record { list = rw d.0; comparisons = omega arith }))))
    where
      none : ((c : ℕ) → child fs ls m v ≡ suc c → day_at ls c < l) → (upto (bottom fs ls v) ≡ upto m) × (due (bottom fs ls v) ≡ due m)
      none g = skip m (bottom fs ls v) r.base (barren fs ls sorted m v r l g)

  pub descend_went : (f : ℕ) → Descends f
  unfolding descend
  descend_went zero m v c s r off h e t = absurd (omega (arith, last_is fs ls m v c e))
  descend_went (suc f) m v c s r off h e t = let k = last_is fs ls m v c e in
      let s₁ : Progress = compare fs ls l (last_child fs ls c) (descend fs ls l f) s in
      let w₁ = rw (← c_child fs ls m v r c e) at (compare_went f (descend_went f) (suc c) v s (child_stretch fs ls m v r c e) (λ x a b. off x (omega arith) b) (omega arith)) in
      let w₂ = rw (k.is, off c k.over k.under k.is) at (chain_of_lem c s₁ (omega (arith, r.inside)) t) in
      let w₃ = rw (← left_is fs ls c, k.of) at (compare_went f (descend_went f) (parent fs ls c) c (chain fs ls l c s₁) (own fs ls c k.is (omega (arith, r.inside))) (λ x a b. off x (omega arith) (omega arith)) (omega arith)) in
      record { list = w₃.list ∙ w₂.list ∙ w₁.list; comparisons = omega arith }

  -- the path upward from the mark m, where `on` is that path
  climb_went : (f m : ℕ) (s : Progress) → m ≤ f → m ≤ length fs → ((v : ℕ) → m ≡ suc v → Head fs ls v × (reach fs ls l v ≡ true))
      → ((x : ℕ) → x < m → on x ≡ on_path fs ls f m x) → Went m s 0 (climb fs ls l f m s) 0 0
  unfolding climb on_path
  climb_went zero m s b h top path = let z : m ≡ 0 = omega arith in rw z (record { list = refl; comparisons = refl })
  climb_went (suc f) zero s b h top path = record { list = refl; comparisons = refl }
  climb_went (suc f) (suc v) s b h top path = let q = top v refl in
      let s₁ : Progress = chain fs ls l v s in
      let w₁ = rw (q.0, rw (eq-eqb v v refl) at (path v (le_refl (suc v)))) at (chain_of_lem v s h q.1) in
      let path' : (x : ℕ) → x < v → on x ≡ on_path fs ls f (parent fs ls v) x = λ x lt. rw (ne_eqb x v (λ z. omega arith)) at (path x (omega arith)) in
      let w₂ = rw (← left_is fs ls v) at (compare_went (length fs) (descend_went (length fs)) (parent fs ls v) v s₁ (own fs ls v q.0 h) (λ x a b _. path' x b ∙ path_under fs ls f _ x a) (omega arith)) in
      let i = parent_is fs ls v in
      let w₃ = climb_went f (parent fs ls v) (compare fs ls l (left_sibling fs ls v) (descend fs ls l (length fs)) s₁) (omega (arith, i.within)) (omega (arith, i.within))
      (λ u z. ((i.hit u z).0, le-leb l (day_at ls u) (omega (arith, (i.hit u z).1, leb-true l (day_at ls v) q.1)))) (λ x lt. path' x (omega (arith, i.within))) in
      record { list = w₃.list ∙ w₂.list ∙ w₁.list; comparisons = omega arith }

module _ (fs ls : List ℕ) (sorted : Sorted fs ls) (h l : ℕ) where
  pub fits_of : (p : ℕ) → fits_at fs ls h l p ≡ true → (day_at fs p ≤ h) × (l ≤ day_at ls p)
  fits_of p e = unfold fits_at in let q = both (leb (day_at fs p) h) (leb l (day_at ls p)) e in (leb-true _ _ q.0, leb-true _ _ q.1)

  pub of_fits : (p : ℕ) → day_at fs p ≤ h → l ≤ day_at ls p → fits_at fs ls h l p ≡ true
  of_fits p a b = unfold fits_at in rw (le-leb _ _ a, le-leb _ _ b)

  -- what the start is: a head that fits, and no position from it on fits
  pub start_is : Found (λ v. Head fs ls v × (day_at fs v ≤ h) × (l ≤ day_at ls v)) (λ x. fits_at fs ls h l x ≡ true → ⊥) (length fs) (start fs ls h l)
  unfolding start
  start_is = let i = below_is (λ p. head fs ls p && fits_at fs ls h l p) (length fs) in record {
    within = i.within;
    hit = λ v e. let q = both (head fs ls v) (fits_at fs ls h l v) (i.hit v e) in let r = fits_of v q.1 in (q.0, r.0, r.1);
    miss = λ x a b e.
        let y = top fs ls sorted x b in
        let r = fits_of x e in
        i.miss y.at (omega arith) y.inside (rw y.is (of_fits y.at (omega arith) (omega arith)));
  }

  -- THE LISTING and THE LOOKS
  pub right : ((walk fs ls l (start fs ls h l)).list ≡ keep (fits_at fs ls h l) (length fs))
      × ((walk fs ls l (start fs ls h l)).comparisons ≡ formula fs ls (start fs ls h l) (walk fs ls l (start fs ls h l)).list)
  right = unfold walk formula due count keep fits_at in let m : ℕ = start fs ls h l in let i = start_is in
      let w = climb_went fs ls sorted l (on_path fs ls (length fs) m) (length fs) m nothing i.within i.within (λ v z. let q = i.hit v z in (q.0, le-leb l (day_at ls v) q.2)) (λ x _. refl) in
      let a : (walk fs ls l m).list ≡ keep (reach fs ls l) m = w.list ∙ append-nil (keep (reach fs ls l) m) in
      let b = keep_ext (reach fs ls l) (fits_at fs ls h l) m (λ p k. by_mark m (λ z. absurd (omega arith)) (λ v z.
      rw (le-leb (day_at fs p) h (omega (arith, days_rise fs ls sorted p v (omega arith) (omega (arith, i.within)), (i.hit v z).1))))) in
      (a ∙ b ∙ sym (keep_skip (fits_at fs ls h l) m (length fs) i.within i.miss), rw a (omega (arith, w.comparisons)))

  -- THE THEOREMS, for any two days
  pub listing : (walk fs ls l (start fs ls h l)).list ≡ keep (fits_at fs ls h l) (length fs)
  listing = right.0

  pub comparisons_formula : (walk fs ls l (start fs ls h l)).comparisons ≡ formula fs ls (start fs ls h l) (keep (fits_at fs ls h l) (length fs))
  comparisons_formula = right.1 ∙ ap (formula fs ls (start fs ls h l)) listing

-- never more than three comparisons for each spell listed
pub formula_le : (fs ls : List ℕ) (m : ℕ) (ps : List ℕ) → formula fs ls m ps ≤ 3 * length ps
formula_le fs ls m ps = unfold formula in omega (arith, count_le (has_next fs ls) ps, count_le (has_left fs ls) ps, count_le (has_child fs ls (on_path fs ls (length fs) m)) ps)
