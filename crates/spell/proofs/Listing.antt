-- Numbers that stand in a list, and a list of unique numbers with one spell more at its end. Assumes nothing.
use Rattle.basis.proofs.Prelude.{◌≡◌, ap, refl, sym, ℕ, List, List-as-Memᴰ, List·Memᴰ·head, List·Memᴰ·tail, [], ◌++◌, ◌∷◌, Bool, ◌||◌, false, not, true, true≢false, eqb, eq-eqb, eqb-false, ne_eqb, not-true, both, by_test, clash}
use mathlib.Core.List.Memᴰ
use Rattle.spell.specs.{declared.Spell.Spell, Listing.{stands, distinct}}

pub neither : (a b : Bool) → a || b ≡ false → (a ≡ false) × (b ≡ false)
neither true b e = absurd (true≢false e)
neither false b e = (refl, e)

pub other_way : (a b : ℕ) → eqb a b ≡ false → eqb b a ≡ false
other_way a b h = ne_eqb b a (λ e. eqb-false a b h (sym e))

-- the first of unique numbers does not stand in the others, which are unique
pub alone : (x : Spell) (l : List Spell) → distinct (x ∷ l) ≡ true → (stands l x.number ≡ false) × (distinct l ≡ true)
alone x l h = unfold distinct in let p = both (not (stands l x.number)) (distinct l) h in (not-true _ p.0, p.1)

-- the number of a spell of the list stands, and one that none of them has does not
pub listed_stands : (x : Spell) (l : List Spell) → List-as-Memᴰ x l → stands l x.number ≡ true
unfolding stands
listed_stands x l (List·Memᴰ·head {x = y} e) = rw (eq-eqb y.number x.number (ap (λ (s : Spell). s.number) (sym e)))
listed_stands x l (List·Memᴰ·tail {x = y} {xs = m} i) = by_test (eqb y.number x.number) (λ e. rw e) (λ e. rw e (listed_stands x m i))

pub stands_none : (l : List Spell) (k : ℕ) → stands l k ≡ false → (x : Spell) → List-as-Memᴰ x l → x.number ≡ k → ⊥
stands_none l k h x i e = clash (listed_stands x l i) (rw e h)

pub none_stands : (l : List Spell) (k : ℕ) → ((x : Spell) → List-as-Memᴰ x l → x.number ≡ k → ⊥) → stands l k ≡ false
unfolding stands
none_stands [] k h = refl
none_stands (x ∷ l) k h = rw (ne_eqb x.number k (h x (List·Memᴰ·head refl))) (none_stands l k (λ y i. h y (List·Memᴰ·tail i)))

pub stands_more : (l : List Spell) (x : Spell) (k : ℕ) → stands (l ++ (x ∷ [])) k ≡ stands l k || eqb x.number k
unfolding stands
stands_more [] x k = by_test (eqb x.number k) (λ e. rw e) (λ e. rw e)
stands_more (a ∷ l) x k = rw (stands_more l x k) (by_test (eqb a.number k) (λ e. rw e) (λ e. rw e))

pub distinct_fresh : (l : List Spell) (x : Spell) (m : List Spell) → distinct (l ++ x ∷ m) ≡ true → stands l x.number ≡ false
unfolding stands
distinct_fresh [] x m h = refl
distinct_fresh (a ∷ l) x m h =
    let p = alone a (l ++ x ∷ m) h in
    rw (ne_eqb _ _ (λ e. stands_none _ _ p.0 x (Memᴰ.append_right l (List·Memᴰ·head refl)) (sym e))) (distinct_fresh l x m p.1)

pub distinct_more : (l : List Spell) (x : Spell) → distinct l ≡ true → stands l x.number ≡ false → distinct (l ++ (x ∷ [])) ≡ true
unfolding stands distinct
distinct_more [] x h k = refl
distinct_more (a ∷ l) x h k =
    let p = alone a l h in
    let q = neither (eqb a.number x.number) (stands l x.number) k in
    rw (stands_more l x a.number, p.0, other_way a.number x.number q.0) (distinct_more l x p.1 q.1)
