-- Whether every ticked day is on the calendar, by the lowest and the highest; and the ticked days put one by one into the first places of a
-- list. Assumes nothing.
use Rattle.basis.proofs.Prelude.{◌≡◌, sym, ap, ◌∙◌, ℕ, zero, suc, ◌+◌, ◌-◌, ◌/◌, ◌%◌, ◌≤◌, ◌<◌, List, ◌∷◌, ◌++◌, append_assoc, Bool, true, false, not, leb, length, take, drop, set, length-set, drop-drop, drop-set-lt, take-append-drop, take-suc-set, add-one, div-eq_of_lt, arith, eqb-true, le-leb, leb-false, lt-leb, not-true, not-false, both, by_cases, by_eq, by_test}
use mathlib.Core.Bool.{and-true}
use Prim.Native.Nat.{◌^◌}
use native.Mathlib.Nat.{div-one}
use lib.{Count.{ones, count_trailing_zeros, count_leading_zeros, leading_top}, Pow.{shr-shr, shr_lt}}
use Rattle.buffer.specs.Buffer.{over}
use Rattle.calendar.{specs.Calendar.{is_day, days_ok}, proofs.Calendar.dated}
use Rattle.masks.{specs.{Masks.{is_set, ticks_from, ticks}, Answers.{All, Off, Answer, Room}}, proofs.{Bits.{highest_set, none_from, Next, next}, Claims.as_many}}

-- ---- The ticked days
module _ (base mask : ℕ) where
  pub empty_on : mask ≡ 0 → true ≡ days_ok (ticks base mask)
  empty_on e = unfold days_ok in rw (none_from base mask 64 0 (div-one mask ∙ e))

  -- the bits from i on, of which t is the highest: none of their days is day 0, and it is by t's whether all are on the calendar
  high_from : (t : ℕ) → is_set mask t ≡ true → mask / 2 ^ suc t ≡ 0 → (n i : ℕ) → i ≤ t → t < i + n → (is_set mask i ≡ true → 1 ≤ base + i)
      → leb (base + t) 4000 ≡ days_ok (ticks_from base mask i n)
  unfolding ticks_from days_ok
  high_from t s z zero i l h low = absurd (omega arith)
  high_from t s z (suc n) i l h low = by_eq i t l
      (λ e. rw (e, s, none_from base mask n (suc t) z, le-leb 1 (base + t) (rw e at (low (rw e s)))) (sym (and-true _)))
      (λ g.
      let ih = high_from t s z n (suc i) g (omega arith) (λ _. omega arith) in
      by_cases (λ (r : List ℕ). leb (base + t) 4000 ≡ days_ok r) (is_set mask i)
      (λ y. by_test (leb (base + i) 4000)
      (λ o. rw (le-leb 1 (base + i) (low y), o) ih)
      (λ o. rw (le-leb 1 (base + i) (low y), o, lt-leb (base + t) 4000 (omega (arith, leb-false (base + i) 4000 o)))))
      (λ _. ih))

  module _ (some : mask ≡ 0 → ⊥) (fits : mask < 2 ^ 64) where
    pub low_off : base + count_trailing_zeros 64 mask < 1 → false ≡ days_ok (ticks base mask)
    low_off h = unfold days_ok in rw (next base mask 64 64 0 mask (div-one mask) (omega arith) fits some).is (rw (lt-leb 1 (base + (0 + count_trailing_zeros 64 mask)) (omega arith)))

    pub high_on : 1 ≤ base + count_trailing_zeros 64 mask → leb (base + (63 - count_leading_zeros 64 mask)) 4000 ≡ days_ok (ticks base mask)
    high_on l = unfold count_trailing_zeros is_set in
        let t = leading_top 64 mask (omega (arith, some)) fits in
        let same : 63 - count_leading_zeros 64 mask ≡ t.0 = omega (arith, t.1) in
        rw same (high_from t.0 (highest_set mask t.0 t.2 t.3) (div-eq_of_lt t.3) 64 0 (omega arith) (omega (arith, t.1))
        (λ e. let one : mask % 2 ≡ 1 = rw (div-one mask) at (eqb-true (mask / 1 % 2) 1 e) in omega (arith, rw one at l)))

-- ---- Those of the bits from i on, of which `left` is left, are still to be put, from the place n on
pub record Ticking (base mask : ℕ) (held days : List ℕ) (left i n : ℕ) : Type 0 where
  pub places : length held ≡ 64
  pub sized : length days ≡ 64
  pub fits : mask < 2 ^ 64
  pub behind : n ≤ i
  pub within : i ≤ 64
  pub shifted : mask / 2 ^ i ≡ left
  pub on : days_ok (ticks_from base mask i (64 - i)) ≡ true
  pub ahead : over (ticks base mask) held ≡ take n days ++ over (ticks_from base mask i (64 - i)) (drop n days)

pub begins : {base mask : ℕ} {held : List ℕ} → Room base mask held → mask < 2 ^ 64 → Ticking base mask held held mask 0 0
begins r f = search (div-one, arith)

-- the first of some values put into the place n
put_first : (days rest : List ℕ) (n d : ℕ) → n < length days
    → take n days ++ over (d ∷ rest) (drop n days) ≡ take (n + 1) (set days n d) ++ over rest (drop (n + 1) (set days n d))
put_first days rest n d h = let e : n + suc (length rest) ≡ suc n + length rest = omega arith in
    rw (add-one n, take-suc-set days n d h, drop-set-lt (suc n) days n d (omega arith)) (simp (append_assoc, drop-drop, e))

module _ {base mask : ℕ} {held days : List ℕ} {left i n : ℕ} (t : Ticking base mask held days left i n) where
  -- nothing is left: all are put
  pub ends : left ≡ 0 → days ≡ over (ticks base mask) held
  ends e = sym (t.ahead ∙ rw (none_from base mask (64 - i) i (t.shifted ∙ e)) (take-append-drop n days))

  -- nothing is left once every place is passed
  pub ends_full : length days ≤ n → days ≡ over (ticks base mask) held
  ends_full h = let z : i ≡ 64 = omega (arith, t) in ends (sym t.shifted ∙ rw z (div-eq_of_lt t.fits))

  module _ (some : left ≡ 0 → ⊥) where
    abbrev z : ℕ
    z = count_trailing_zeros 64 left

    step : Next base mask i (64 - i) z
    step = let w : 64 - i + i ≡ 64 = omega (arith, t.within) in
        next base mask _ 64 i left t.shifted (omega arith) (rw t.shifted at (shr_lt {n = mask} (64 - i) i (rw w t.fits))) some

    seen : (is_day (base + (i + z)) ≡ true) × (days_ok (ticks_from base mask (suc (i + z)) (64 - i - suc z)) ≡ true)
    seen = unfold days_ok in both _ _ (rw step.is at t.on)

    -- what a turn knows, which takes the ticked day z bits on: the bit and the day
    pub turn : (i + z < 64) × (base + (i + z) ≤ 4000)
    turn = let day = dated (base + (i + z)) seen.0 in let bit = step.within in omega (arith, t)

    pub goes_on : n < length days → Ticking base mask held (set days n (base + (i + z))) (left / 2 ^ z / 2) (i + z + 1) (n + 1)
    goes_on room =
        let known = turn in
        let up : suc (i + z) ≡ i + z + 1 = omega arith in
        let fewer : 64 - i - suc z ≡ 64 - (i + z + 1) = omega arith in
        let on = rw (up, fewer) at seen.1 in
        let shifted = sym (shr-shr mask (i + z) 1) ∙ ap (λ x. x / 2) (sym (shr-shr mask i z) ∙ ap (λ x. x / 2 ^ z) t.shifted) in
        let ahead = (rw (step.is, up, fewer) at t.ahead) ∙ put_first days (ticks_from base mask (i + z + 1) (64 - (i + z + 1))) n (base + (i + z)) (omega arith) in
        search (length-set, arith)

-- ---- The answer

module _ (base mask : ℕ) (held : List ℕ) {r : Bool} (on : r ≡ days_ok (ticks base mask)) where
  pub off : not r ≡ true → Answer base mask Off held held
  off h = let e = sym on ∙ not-true _ h in record { says = rw e; holds = rw e }

  pub is_on : not r ≡ false → days_ok (ticks base mask) ≡ true
  is_on h = sym on ∙ not-false _ h

  pub all : not r ≡ false → mask < 2 ^ 64 → {days : List ℕ} → days ≡ over (ticks base mask) held
      → Answer base mask (All (ones mask)) held days
  all h fits put = record { says = rw (is_on h, as_many base mask fits); holds = rw (is_on h) put }
