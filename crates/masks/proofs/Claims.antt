-- What is true of the ticked days of every sheet, and what an answer tells its caller. Assumes nothing.
use Rattle.basis.proofs.Prelude.{◌≡◌, refl, ap, ℕ, suc, ◌+◌, ◌≤◌, ◌<◌, List, List-as-Memᴰ, [], ◌∷◌, true, false, get_or, length, take, length-append, take-append_seam, arith, by_test}
use Prim.Native.Nat.{◌^◌}
use native.Mathlib.Nat.{div-one}
use lib.Count.{ones}
use Rattle.buffer.specs.Buffer.{over}
use Rattle.calendar.specs.Calendar.{days_ok}
use Rattle.masks.specs.{Masks.{is_set, ticks_from, ticks}, Answers.{Ticks, All, Off, answered, Answer}}
use Rattle.masks.proofs.Bits.{none_from, few_from, count_from, rises_from, bit_of, of_bit}

module _ (base mask : ℕ) where
  -- AS MANY as the mask has ones, and at most 64
  pub as_many : mask < 2 ^ 64 → length (ticks base mask) ≡ ones mask
  as_many fits = rw (div-one mask) at (count_from base mask 64 0 (rw (div-one mask) fits))

  pub in_sheet : length (ticks base mask) ≤ 64
  in_sheet = few_from base mask 64 0

  -- STRICTLY RISING: each is above the one before
  pub rises : (k : ℕ) → suc k < length (ticks base mask) → get_or (ticks base mask) k 0 < get_or (ticks base mask) (suc k) 0
  rises k = rises_from base mask 64 0 0 (suc k) (omega arith)

  -- THE DAYS are base + i for each bit i that is set, and no others
  pub only_set : (d : ℕ) → List-as-Memᴰ d (ticks base mask) → (i : ℕ) × (i < 64) × (is_set mask i ≡ true) × (d ≡ base + i)
  only_set d = bit_of base mask 64 64 0 d (omega arith)

  pub every_set : (i : ℕ) → i < 64 → is_set mask i ≡ true → List-as-Memᴰ (base + i) (ticks base mask)
  every_set i h s = of_bit base mask 64 0 i (omega arith) h s

-- AN EMPTY MASK ticks none, and is not off the calendar, whatever its base
pub empty : (base : ℕ) → ticks base 0 ≡ []
empty base = none_from base 0 64 0 refl

pub empty_answer : (base : ℕ) → answered (ticks base 0) ≡ All 0
empty_answer base = unfold days_ok in rw (empty base)

-- ---- What each answer says to a caller

-- all are on the calendar: they are the first n places of the list
pub record Given (base mask n : ℕ) (days : List ℕ) : Type 0 where
  pub on : days_ok (ticks base mask) ≡ true
  pub number : n ≡ length (ticks base mask)
  pub inside : n ≤ length days
  pub first : take n days ≡ ticks base mask

module _ {base mask : ℕ} {r : Ticks} {held days : List ℕ} (a : Answer base mask r held days) where
  pub all_gives : {n : ℕ} → r ≡ All n → Given base mask n days
  all_gives {n} e = by_test (days_ok (ticks base mask))
      (λ o.
      let h : r ≡ All (length (ticks base mask)) = rw o at a.says in
      let many : n ≡ length (ticks base mask) = cc in
      let is : days ≡ over (ticks base mask) held = rw o at a.holds in
      let long = simp length-append at (ap length is) in
      let first : take n days ≡ ticks base mask = rw (many, is) (take-append_seam (ticks base mask) _) in
      search arith)
      (λ o. let h : r ≡ Off = rw o at a.says in let z : ◌≡◌ {A = ℕ} 0 1 = cc in absurd (omega arith))

  -- one is not
  pub off_gives : r ≡ Off → days_ok (ticks base mask) ≡ false
  off_gives e = by_test (days_ok (ticks base mask)) (λ o. let h : r ≡ All (length (ticks base mask)) = rw o at a.says in cc) (λ o. o)

-- ---- Worked: the days 10 and 12; the highest bit; days 0, 1, 4,001 and 65,536
pub worked : (ticks 10 5 ≡ 10 ∷ 12 ∷ [])
    × (ticks 1 9223372036854775808 ≡ 64 ∷ [])
    × (answered (ticks 0 1) ≡ Off)
    × (answered (ticks 0 2) ≡ All 1)
    × (answered (ticks 4000 3) ≡ Off)
    × (answered (ticks 65535 2) ≡ Off)
worked = unfold ticks_from is_set days_ok in (refl, refl, refl, refl, refl, refl)
