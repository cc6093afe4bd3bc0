-- How the links are found, each head climbing from the head before it, and the steps of the sweep apart from the code. Assumes nothing.
use Rattle.stabbing_index.proofs.{Laying.{set_word, zeros_at, grown_none, grow_set, grow_skip}, Names.{ap, rules, ◌∙◌, ◌≡◌, refl, sym, ◌+◌, ◌-◌, ◌<◌, ◌≤◌, suc, zero-le, ℕ, List, Bool, false, true, ◌≢◌, eqb, ltb, get_or, length, length-replicate, length-set, replicate, set, add-one, arith, eqb-false, le-leb, ltb-true, by_test, clash, capacity, Way, below, day_at, head, next, parent, child, left_sibling, row_link, head_link, Head, bottom, below_hit, below_miss, bottom_is, parent_is, left_is, head_false, head_link_lem, head_none, row_link_lem, next_none, next_some, lasts_to, Columns, Linked, Chained, head_at, ClimbAt, Climbed, Under, HeadAt, ◌&&◌, leb, eq-eqb, eqb-true, leb-false, leb-true, both, by_eq, by_mark, untrue, below_skip, child_is, parent_ge}}

module _ (fs ls : List ℕ) where
  -- a head's parent is the nearest that lasts as long, from the head before it upward
  pub parent_bottom : (a : ℕ) → below (lasts_to fs ls (day_at ls a)) (bottom fs ls a) ≡ parent fs ls a
  parent_bottom a = unfold parent in let i = bottom_is fs ls a in
      sym (below_skip (lasts_to fs ls (day_at ls a)) (bottom fs ls a) a i.within (λ x g k e. i.miss x g k (both (head fs ls x) (leb (day_at ls a) (day_at ls x)) e).0))

  -- the way from there begins under it, with no child of its parent behind
  pub under_bottom : (a : ℕ) → Under fs ls (bottom fs ls a) 0 a
  under_bottom a = let i = bottom_is fs ls a in let c = child_is fs ls (bottom fs ls a) a in record {
    within = i.within;
    long = λ v z x g k hx. absurd (i.miss x (rw z g) k hx);
    last = by_mark (child fs ls (bottom fs ls a) a) sym (λ x z.
        let h = c.hit x z in absurd (i.miss x (omega (arith, h.1, (parent_is fs ls x).within)) (omega (arith, c.within)) h.0));
  }

  -- one step of it, to a head that lasts longer
  pub lasts_up : (v l : ℕ) → day_at ls v < l → below (lasts_to fs ls l) (parent fs ls v) ≡ below (lasts_to fs ls l) (suc v)
  lasts_up v l h = let i = parent_is fs ls v in
      sym (below_skip (lasts_to fs ls l) (parent fs ls v) (suc v) (omega (arith, i.within)) (λ x g k e.
      let b = both (head fs ls x) (leb l (day_at ls x)) e in let t = leb-true l (day_at ls x) b.1 in
      by_eq x v (omega arith) (λ y. omega (arith, ap (day_at ls) y)) (λ lt. omega (arith, i.miss x g lt b.0))))

  pub under_up : (v a k : ℕ) → Head fs ls v → Under fs ls (suc v) k a → Under fs ls (parent fs ls v) (suc v) a
  under_up v a k hv w = unfold child in let i = parent_is fs ls v in let t : ℕ → Bool = λ b. head fs ls b && eqb (parent fs ls b) (parent fs ls v) in record {
    within = omega (arith, i.within, w.within);
    long = λ u z x g k hx. let p = (i.hit u z).1 in by_test (leb x v)
        (λ e. by_eq x v (leb-true _ _ e) (λ y. rw y p) (λ lt. omega (arith, i.miss x (rw z g) lt hx)))
        (λ e. omega (arith, w.long v refl x (leb-false _ _ e) k hx));
    last = sym (below_skip t (suc v) a w.within (λ x g k e.
        let b = both (head fs ls x) (eqb (parent fs ls x) (parent fs ls v)) e in
        omega (arith, eqb-true (parent fs ls x) (parent fs ls v) b.1, parent_ge fs ls v x hv g (w.long v refl x g k b.0), i.within))
        ∙ below_hit t v (rw (hv, eq-eqb (parent fs ls v) (parent fs ls v) refl)));
  }

-- one head more: the last child of the mark m before a + 1
pub child_next : (fs ls : List ℕ) (m a : ℕ) → Head fs ls a → parent fs ls a ≡ m → a + 1 ≡ child fs ls m (a + 1)
child_next fs ls m a h e = unfold child in rw (add-one a) (sym (below_hit _ a (rw (h, eq-eqb (parent fs ls a) m e))))

pub child_same : (fs ls : List ℕ) (m a : ℕ) → (Head fs ls a → parent fs ls a ≢ m) → child fs ls m a ≡ child fs ls m (a + 1)
child_same fs ls m a f = unfold child in rw (add-one a)
    (sym (below_miss _ a (untrue _ (λ e. let b = both (head fs ls a) (eqb (parent fs ls a) m) e in f b.0 (eqb-true _ _ b.1)))))

-- a head by its column
pub head_is : {xs ys fs ls : List ℕ} {n : ℕ} (k : ℕ) → Columns xs ys fs ls n → k < n → head_at xs n k ≡ head fs ls k
head_is {xs} {ys} {fs} {ls} {n} k q h = unfold head in by_test (eqb (suc k) n)
    (λ e. rw (q.count, e))
    (λ e. let ne : suc k ≢ n = eqb-false (suc k) n e in rw (q.count, e, q.firsts k h, q.firsts (suc k) (omega arith)))

-- ---- the steps of `climb`
-- it may begin at a head's mark m, where the parents below b are known
pub climb_at : {xs ys fs ls ps : List ℕ} {n m b : ℕ} → Columns xs ys fs ls n → m ≤ n → m ≤ b → ((v : ℕ) → m ≡ suc v → Head fs ls v)
    → ((v : ℕ) → v < b → get_or ps v 0 ≡ head_link fs ls (parent fs ls) v) → ClimbAt xs ys fs ls n ps m
climb_at q h g heads known = record { columns = q; within = h; at_head = heads; parents = λ v a. known v (omega arith) }

module _ {xs ys fs ls : List ℕ} {n : ℕ} {ps : List ℕ} {m : ℕ} (q : ClimbAt xs ys fs ls n ps m) where
  pub ends : {l k : ℕ} → m ≤ 0 → Climbed fs ls l m k (record { parent = m; left = k })
  ends h = unfold below in let z : m ≡ 0 = omega arith in rw z (search arith)

  module _ (some : 0 < m) where
    abbrev v : ℕ
    v = m - 1

    z : m ≡ suc v
    z = omega arith

    inside : v < n
    inside = omega (arith, q.within)

    pub stays : {l k : ℕ} → l ≤ get_or ys v 0 → Climbed fs ls l m k (record { parent = m; left = k })
    stays {l} e =
        let parent : m ≡ below (lasts_to fs ls l) m = rw z (sym (below_hit (lasts_to fs ls l) v (rw (q.at_head v z, le-leb l (day_at ls v) (rw (q.columns.lasts v inside) at e))))) in
        search arith

    module _ {j : ℕ} (y : j ≡ get_or ps v 0) where
      j_is : j ≡ parent fs ls v
      j_is = y ∙ q.parents v (omega (arith, z)) ∙ head_link_lem fs ls (parent fs ls) v (rw q.columns.count inside) (q.at_head v z)

      pub falls : {t : ℕ} → m ≡ t → j < t
      falls e = omega (arith, j_is, z, (parent_is fs ls v).within)

      pub asks : ClimbAt xs ys fs ls n ps j
      asks = let f = falls refl in climb_at q.columns (omega (arith, q.within)) (omega arith) (λ u e. ((parent_is fs ls v).hit u (sym j_is ∙ e)).0) q.parents

      pub goes_up : {l k : ℕ} → get_or ys v 0 < l → {w : Way} → Climbed fs ls l j m w → Climbed fs ls l m k w
      goes_up {l} {k} e {w} g =
          let parent : w.parent ≡ below (lasts_to fs ls l) m
          = g.parent ∙ rw j_is (lasts_up fs ls v l (rw (q.columns.lasts v inside) at e)) ∙ ap (below (lasts_to fs ls l)) (sym z) in
          let left : (a : ℕ) → Under fs ls m k a → w.left ≡ child fs ls w.parent a
          = λ a o. g.left a (rw (z, j_is) (under_up fs ls v a k (q.at_head v z) (rw z at o))) in
          let f = falls refl in search arith

-- on the way up from the mark m, at the mark u with the head k passed last: where the way from there ends, the whole way does
pub record Climbing (xs ys fs ls : List ℕ) (n : ℕ) (ps : List ℕ) (l m u k : ℕ) : Type 0 where
  pub asks : ClimbAt xs ys fs ls n ps u
  pub ends_as : {w : Way} → Climbed fs ls l u k w → Climbed fs ls l m 0 w

pub climb_begins : {xs ys fs ls : List ℕ} {n : ℕ} {ps : List ℕ} {l m : ℕ} → ClimbAt xs ys fs ls n ps m → Climbing xs ys fs ls n ps l m m 0
climb_begins q = record { asks = q; ends_as = λ g. g }

module _ {xs ys fs ls : List ℕ} {n : ℕ} {ps : List ℕ} {l m u k : ℕ} (i : Climbing xs ys fs ls n ps l m u k) where
  pub climb_on : (some : 0 < u) → get_or ys (u - 1) 0 < l → {j : ℕ} → j ≡ get_or ps (u - 1) 0 → Climbing xs ys fs ls n ps l m j u
  climb_on some e y = record { asks = asks i.asks some y; ends_as = λ g. i.ends_as (goes_up i.asks some y e g) }

  pub climb_falls : (some : 0 < u) → {j : ℕ} → j ≡ get_or ps (u - 1) 0 → j < u
  climb_falls some y = falls i.asks some y refl

  pub climb_ends : u ≤ 0 → Climbed fs ls l m 0 (record { parent = u; left = k })
  climb_ends h = i.ends_as (ends i.asks h)

  pub climb_stays : 0 < u → l ≤ get_or ys (u - 1) 0 → Climbed fs ls l m 0 (record { parent = u; left = k })
  climb_stays some h = i.ends_as (stays i.asks some h)

-- ---- columns of 0
pub unlinked : {fs ls : List ℕ} (size : ℕ) → size ≡ 1024 → Linked fs ls (replicate size 0) (replicate size 0) (replicate size 0) 0
unlinked size e = unfold child below in record { parents = grown_none size e; lefts = grown_none size e; size = length-replicate size 0 ∙ e; children = zeros_at size }

pub unchained : (fs ls : List ℕ) (size : ℕ) → size ≡ 1024 → Chained fs ls (replicate size 0) 0
unchained fs ls size e = unfold next in grow_skip (grown_none size e) (by_test (ltb 0 (length fs)) (λ y. rw y) (λ y. rw y))

-- ---- a head
module _ {xs ys fs ls : List ℕ} {n k prev : ℕ} {ps qs cs : List ℕ} (q : HeadAt xs ys fs ls n k prev ps qs cs) where
  room : k < 1024
  room = omega (arith, q.inside, q.columns.few)

  pub asks_climb : ClimbAt xs ys fs ls n ps prev
  asks_climb = climb_at q.columns (omega (arith, q.below, q.inside)) q.below (λ v z. (bottom_is fs ls k).hit v (sym q.before ∙ z)) q.links.parents.done

  module _ {w : Way} (g : Climbed fs ls (get_or ys k 0) prev 0 w) where
    parent_of : w.parent ≡ parent fs ls k
    parent_of = g.parent ∙ rw (q.columns.lasts k q.inside, q.before) (parent_bottom fs ls k)

    left_mark_is : w.left ≡ left_sibling fs ls k
    left_mark_is = g.left k (rw q.before (under_bottom fs ls k)) ∙ rw parent_of (sym (left_is fs ls k))

    -- the links, where the children's column holds those of its parent too
    linked : {cs' : List ℕ} → length cs' ≡ capacity → ((v : ℕ) → get_or cs' v 0 ≡ child fs ls (suc v) (k + 1)) → Linked fs ls (set ps k w.parent) (set qs k w.left) cs' (k + 1)
    linked s c = let link : (f : ℕ → ℕ) → head_link fs ls f k ≡ f k = λ f. head_link_lem fs ls f k (rw q.columns.count q.inside) q.top in
        let parents = grow_set q.links.parents room (parent_of ∙ sym (link (parent fs ls))) in
        let lefts = grow_set q.links.lefts room (left_mark_is ∙ sym (link (left_sibling fs ls))) in search

    -- no parent
    pub linked_root : w.parent ≡ 0 → Linked fs ls (set ps k w.parent) (set qs k w.left) cs (k + 1)
    linked_root z = linked q.links.size (λ v. q.links.children v ∙ child_same fs ls (suc v) k (λ _ y. omega (arith, parent_of)))

    -- a parent: k is its last child so far
    pub linked_child : w.parent ≢ 0 → Linked fs ls (set ps k w.parent) (set qs k w.left) (set cs (w.parent - 1) (k + 1)) (k + 1)
    linked_child z = let u : ℕ = w.parent - 1 in let y : parent fs ls k ≡ suc u = omega (arith, parent_of) in
        linked (length-set cs u (k + 1) ∙ q.links.size) (λ v. set_word cs u v (k + 1) (omega (arith, g.low, q.below, room, q.links.size))
        (λ e. rw e (child_next fs ls (suc u) k q.top y))
        (λ n. q.links.children v ∙ child_same fs ls (suc v) k (λ _ x. n (omega arith))))

-- ---- `link`, position after position: the links of the heads before k, of which prev is the last, and of the chains
pub record Linking (xs ys fs ls : List ℕ) (n : ℕ) (ps qs cs ns : List ℕ) (prev k : ℕ) : Type 0 where
  pub columns : Columns xs ys fs ls n
  pub links : Linked fs ls ps qs cs k
  pub before : prev ≡ bottom fs ls k
  pub chains : Chained fs ls ns k
  pub within : k ≤ n

pub starts : {xs ys fs ls : List ℕ} {n : ℕ} {ps qs cs ns : List ℕ} → Columns xs ys fs ls n → Linked fs ls ps qs cs 0 → Chained fs ls ns 0 → Linking xs ys fs ls n ps qs cs ns 0 0
starts q l c = unfold below in record { columns = q; links = l; before = refl; chains = c; within = zero-le }

module _ {xs ys fs ls : List ℕ} {n k prev : ℕ} {ps qs cs ns : List ℕ} (i : Linking xs ys fs ls n ps qs cs ns prev k) where
  pub all_linked : n ≤ k → Linked fs ls ps qs cs n
  all_linked h = let e : k ≡ n = omega (arith, i.within) in rw e at i.links

  pub all_chained : n ≤ k → Chained fs ls ns n
  all_chained h = let e : k ≡ n = omega (arith, i.within) in rw e at i.chains

  module _ (inside : k < n) {r : Bool} (e : r ≡ head_at xs n k) where
    is_head : r ≡ head fs ls k
    is_head = e ∙ head_is k i.columns inside

    pub asks_head : r ≡ true → HeadAt xs ys fs ls n k prev ps qs cs
    asks_head z = let top : Head fs ls k = sym is_head ∙ z in let below = (bottom_is fs ls k).within in let b = i.before in search arith

    -- the position above a head has no next in its chain
    pub turn_head : r ≡ true → {ps' qs' cs' : List ℕ} → Linked fs ls ps' qs' cs' (k + 1) → Linking xs ys fs ls n ps' qs' cs' ns (k + 1) (k + 1)
    turn_head z g = let h : Head fs ls k = sym is_head ∙ z in
        let none : row_link fs ls (next fs ls) (k + 1) ≡ 0 = rw (add-one k) (by_test (ltb (suc k) (length fs)) (λ e. rw (e, next_none fs ls k h (ltb-true (suc k) (length fs) e))) (λ e. rw e)) in
        let before : k + 1 ≡ bottom fs ls (k + 1) = rw (add-one k) (sym (below_hit (head fs ls) k h)) in
        let chains = grow_skip i.chains none in search arith

    -- no head
    module _ (z : r ≡ false) where
      np : head fs ls k ≡ false
      np = sym is_head ∙ z

      in_rows : k < length fs
      in_rows = rw i.columns.count inside

      pub goes_on : k + 1 < 1024
      goes_on = omega (arith, (head_false fs ls k in_rows np).0, i.columns.count, i.columns.few)

      pub turn_skip : Linking xs ys fs ls n ps qs cs (set ns (k + 1) (k + 1)) prev (k + 1)
      turn_skip =
          let parents = grow_skip i.links.parents (head_none fs ls (parent fs ls) k in_rows np) in
          let lefts = grow_skip i.links.lefts (head_none fs ls (left_sibling fs ls) k in_rows np) in
          let children : (v : ℕ) → get_or cs v 0 ≡ child fs ls (suc v) (k + 1) = λ v. i.links.children v ∙ child_same fs ls (suc v) k (λ h. absurd (clash h np)) in
          let before : prev ≡ bottom fs ls (k + 1) = i.before ∙ rw (add-one k) (sym (below_miss (head fs ls) k np)) in
          let above : k + 1 ≡ row_link fs ls (next fs ls) (k + 1) = rw (add-one k) (sym (row_link_lem fs ls (next fs ls) (suc k) (head_false fs ls k in_rows np).0 ∙ next_some fs ls k in_rows np)) in
          let chains = grow_set i.chains goes_on above in search arith

pub ruleset steps = (climb_begins, climb_on, climb_falls, climb_ends, climb_stays, asks_climb, linked_root, linked_child, starts, all_linked, all_chained, asks_head, turn_head, goes_on, turn_skip, rules)
