-- The walk's recursions with no fuel to follow: what code that goes by the links is proved against. Assumes nothing.
use Rattle.stabbing.proofs.{Links.{c_child, c_longest, c_shorter, child_stretch, last_is, left_is, own, parent_is}, Marks.{keep_hit, keep_miss, upward}, Names.{Bool, List, Progress, Stretch, [], ◌+◌, ◌-◌, ◌<◌, ◌∙◌, ◌∷◌, ◌≡◌, ◌≤◌, above, ap, arith, by_eq, by_mark, by_test, chain, child, climb, compare, day_at, descend, false, head, keep, last_child, le-leb, le_refl, left_sibling, length, length-append, lt-leb, over, parent, refl, suc, sym, tick, true, zero, ℕ}, Walk.reach}

-- how many positions pass from lo up to hi
module _ (t : ℕ → Bool) where
  keep_one : (p : ℕ) → t p ≡ true → length (keep t (suc p)) ≡ suc (length (keep t p))
  keep_one p e = rw (keep_hit t p e) (omega (arith, length-append (keep t p) (p ∷ [])))

  keep_between : (lo hi : ℕ) → lo ≤ hi → (length (keep t lo) ≤ length (keep t hi)) × (length (keep t hi) + lo ≤ length (keep t lo) + hi)
  keep_between lo hi h = upward (λ k. (length (keep t lo) ≤ length (keep t k)) × (length (keep t k) + lo ≤ length (keep t lo) + k)) lo hi h (le_refl _, le_refl _) (λ p _ _ ih.
      by_test (t p) (λ e. omega (arith, keep_one p e)) (λ e. omega (arith, ap length (keep_miss t p e))))

  pub keep_room : (lo hi : ℕ) → lo ≤ hi → length (keep t hi) + lo ≤ length (keep t lo) + hi
  keep_room lo hi h = (keep_between lo hi h).1

-- the least position that passes
pub above_is : (t : ℕ → Bool) (p f v : ℕ) → p ≤ v → v ≤ p + f → t v ≡ true → ((x : ℕ) → p ≤ x → x < v → t x ≡ false) → above t p f ≡ v
unfolding above
above_is t p zero v h k e n = omega arith
above_is t p (suc f) v h k e n = by_eq p v h
    (λ z. rw (ap t z ∙ e, above) z)
    (λ lt. rw (n p (le_refl p) lt, above) (above_is t (suc p) f v lt (omega arith) e (λ x a b. n x (omega arith) b)))

module _ (fs ls : List ℕ) where
  -- the measure: the heads of a stretch, none of them visited yet
  pub heads : ℕ → ℕ → ℕ
  heads m v = length (keep (head fs ls) v) - length (keep (head fs ls) m)

  pub heads_fall : (m v : ℕ) → Stretch fs ls m v → (c : ℕ) → child fs ls m v ≡ suc c → (heads (suc c) v < heads m v) × (heads m c < heads m v)
  heads_fall m v r c e = unfold heads in let k = last_is fs ls m v c e in
      omega (arith, keep_one (head fs ls) c k.is, keep_between (head fs ls) m c k.over, keep_between (head fs ls) (suc c) v k.under)

  -- where the stretch of a last child ends: at the first later head that lasts longer
  pub over_is : (m v : ℕ) (r : Stretch fs ls m v) (c : ℕ) → child fs ls m v ≡ suc c → over fs ls c ≡ v
  over_is m v r c e = unfold over in above_is _ (suc c) (length fs) v (last_is fs ls m v c e).under (omega (arith, r.inside))
      (rw (r.top, lt-leb (day_at ls v) (day_at ls c) (c_shorter fs ls m v r c e)))
      (λ x g h. by_test (head fs ls x) (λ hx. rw (hx, le-leb (day_at ls x) (day_at ls c) (c_longest fs ls m v r c e x g h hx))) (λ nx. rw nx))

  module _ (l : ℕ) where
    pub compare_same : (m : ℕ) (go go' : ℕ → Progress → Progress) (s : Progress) → ((p : ℕ) → m ≡ suc p → (t : Progress) → go p t ≡ go' p t) → compare fs ls l m go s ≡ compare fs ls l m go' s
    compare_same m go go' s f = unfold compare in by_mark m (λ z. rw z) (λ p z. rw z (by_test (reach fs ls l p) (λ e. rw (e, compare) (f p z (tick s))) (λ e. rw (e, compare))))

    descend_more : (f m v c : ℕ) (s : Progress) → Stretch fs ls m v → v ≤ m + f → child fs ls m v ≡ suc c → descend fs ls l (suc f) c s ≡ descend fs ls l f c s
    unfolding descend
    descend_more zero m v c s r h e = absurd (omega (arith, last_is fs ls m v c e))
    descend_more (suc f) m v c s r h e = let k = last_is fs ls m v c e in
        ap (λ (t : Progress). compare fs ls l (left_sibling fs ls c) (descend fs ls l (suc f)) (chain fs ls l c t))
        (compare_same (last_child fs ls c) (descend fs ls l (suc f)) (descend fs ls l f) s (λ p z t. descend_more f (suc c) v p t (child_stretch fs ls m v r c e) (omega arith) (sym (c_child fs ls m v r c e) ∙ z)))
        ∙ compare_same (left_sibling fs ls c) (descend fs ls l (suc f)) (descend fs ls l f) _ (λ p z t. descend_more f (parent fs ls c) c p t (own fs ls c k.is (omega (arith, r.inside))) (omega arith) (sym (left_is fs ls c) ∙ z))

    -- one head of a rightmost path
    pub descend_step : (m v c : ℕ) (s : Progress) → Stretch fs ls m v → child fs ls m v ≡ suc c
        → descend fs ls l (length fs) c s
        ≡ compare fs ls l (left_sibling fs ls c) (descend fs ls l (length fs)) (chain fs ls l c (compare fs ls l (last_child fs ls c) (descend fs ls l (length fs)) s))
    descend_step m v c s r e = unfold descend in sym (descend_more (length fs) m v c s r (omega (arith, r.inside)) e)

    climb_more : (f m : ℕ) (s : Progress) → m ≤ f → climb fs ls l (suc f) m s ≡ climb fs ls l f m s
    unfolding climb
    climb_more zero m s h = let z : m ≡ 0 = omega arith in rw z
    climb_more (suc f) zero s h = refl
    climb_more (suc f) (suc v) s h = climb_more f (parent fs ls v) _ (omega (arith, (parent_is fs ls v).within))

    -- one head of the path
    pub climb_step : (v : ℕ) (s : Progress) → v < length fs
        → climb fs ls l (length fs) (suc v) s
        ≡ climb fs ls l (length fs) (parent fs ls v) (compare fs ls l (left_sibling fs ls v) (descend fs ls l (length fs)) (chain fs ls l v s))
    climb_step v s h = unfold climb in sym (climb_more (length fs) (suc v) s h)
