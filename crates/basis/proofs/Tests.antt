-- Cases on a test, and tests joined. Assumes nothing.
use Prim.Native.Nat.{ℕ, zero, suc, ◌≤◌, ◌<◌}
use native.Mathlib.Omega.{arith}
use mathlib.Core.{Bool.{Bool, true, false, ◌&&◌, ◌||◌, cond}, Path.{◌≡◌, refl}, Logic.{◌≢◌, ◌⊎◌, inl, inr}}
use lib.Dec.{eqb}
use borrow.Author.Tests.{eqb-true, eqb-false}

-- cases on a test, on a mark (0 for none, p + 1 for the position p), and on two numbers in order
abbrev pub by_test : {C : Type 0} (b : Bool) → (b ≡ true → C) → (b ≡ false → C) → C
by_test true f g = f refl
by_test false f g = g refl

abbrev pub by_mark : {C : Type 0} (m : ℕ) → (m ≡ 0 → C) → ((p : ℕ) → m ≡ suc p → C) → C
by_mark zero f g = f refl
by_mark (suc p) f g = g p refl

pub by_eq : {C : Type 0} (a b : ℕ) → a ≤ b → (a ≡ b → C) → (a < b → C) → C
by_eq a b h f g = by_test (eqb a b) (λ e. f (eqb-true a b e)) (λ e. g (let n : a ≢ b = eqb-false a b e in omega arith))

-- what holds of both outcomes of a test holds of the one that is taken
pub by_cases : {A : Type 0} (P : A → Type 0) (b : Bool) {x y : A} → (b ≡ true → P x) → (b ≡ false → P y) → P (cond b x y)
by_cases P true p q = p refl
by_cases P false p q = q refl

pub both : (a b : Bool) → a && b ≡ true → (a ≡ true) × (b ≡ true)
both true b e = (refl, e)
both false b e = (e, cc)

pub either : (a b : Bool) → a || b ≡ true → (a ≡ true) ⊎ (b ≡ true)
either true b e = inl refl
either false b e = inr e

pub clash : {b : Bool} → b ≡ true → b ≡ false → ⊥
clash e f = let z : ◌≡◌ {A = ℕ} 0 1 = cc in omega arith

pub untrue : (b : Bool) → (b ≡ true → ⊥) → b ≡ false
untrue true f = absurd (f refl)
untrue false f = refl
