-- Single bytes: those that are digits, and the byte that ends a field. Assumes nothing.
use Rattle.basis.proofs.Prelude.{◌≡◌, refl, ◌≤◌, ℕ, List, [], ◌∷◌, true, eqb, leb, arith, eqb-true, le-leb, leb-true, both, by_test}
use Rattle.fields.specs.Fields.{Found, found, unreadable, onward, passed, is_digit}

pub never : {A : Type 0} {a : A} {rest : List ℕ} → unreadable ≡ found a rest → ⊥
never h = let z : ◌≡◌ {A = ℕ} 0 1 = cc in omega arith

-- by what is found of a field
pub by_found : {A C : Type 0} (f : Found A) → ((a : A) (rest : List ℕ) → f ≡ found a rest → C) → (f ≡ unreadable → C) → C
by_found (found a rest) h k = h a rest refl
by_found unreadable h k = k refl

-- ---- bytes that are digits
pub digit_is : (b : ℕ) → 48 ≤ b → b ≤ 57 → is_digit b ≡ true
digit_is b h k = rw (le-leb 48 b h) (le-leb b 57 k)

pub digit_range : (b : ℕ) → is_digit b ≡ true → (48 ≤ b) × (b ≤ 57)
digit_range b h = let p = both (leb 48 b) (leb b 57) h in (leb-true 48 b p.0, leb-true b 57 p.1)

-- ---- the byte that ends a field
-- it stands before what follows, after what was read
pub ended_back : {A : Type 0} (e : ℕ) (f : Found A) (x : A) (rest : List ℕ) → onward f (passed e) ≡ found x rest → f ≡ found x (e ∷ rest)
unfolding passed
ended_back e unreadable x rest h = cc
ended_back e (found a []) x rest h = cc
ended_back e (found a (b ∷ s)) x rest h = by_test (eqb b e) (λ t. cc (eqb-true b e t)) (λ t. cc)
