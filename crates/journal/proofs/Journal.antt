-- The journal with one more entry, and without its newest. Assumes nothing.
use Rattle.basis.proofs.Prelude.{◌∙◌, ◌≡◌, ap, refl, sym, ◌-◌, ◌<◌, ◌≤◌, suc, zero, ℕ, List, [], ◌++◌, ◌∷◌, reverse, reverse-append, reverse-cons, reverse-reverse, drop, drop_of_length-le, length, length-append, length-drop, length-reverse, length-set, length-take, set, take, drop-set-lt, take_all, take_at, take-suc, take-suc-set, arith}
use Rattle.buffer.{specs.Buffer.over, proofs.Over.over_is}
use Rattle.spell_places.proofs.Lists.{copied}
use Rattle.std.specs.List.{copy_within}
use Rattle.journal.specs.{declared.Undo.Undo, Journal.{blank_entry, newest_first, newest_of, noted, noting}}

-- the journal b has the entries es in its first m places, and later places as j has them
journal_is : (j b : List Undo) (m : ℕ) (es : List Undo) → m ≤ length b → reverse (take m b) ≡ es → drop m b ≡ drop m j → b ≡ over (reverse es) j
journal_is j b m es h first rest = over_is (reverse es) j b m h (sym (reverse-reverse (take m b)) ∙ ap reverse first) rest

module _ (j : List Undo) (d : ℕ) (e : Undo) (long : length j ≡ 64) where
  -- room for one more
  pub push_room : d < 64 → set j d e ≡ noting e d j
  push_room h = journal_is j (set j d e) (suc d) (noted e (newest_first d j)) (omega (arith, length-set j d e))
      (rw (take-suc-set j d e (omega arith), reverse-append) (sym (take_all 64 (e ∷ reverse (take d j)) (omega (arith, length-reverse (take d j), length-take d j)))))
      (drop-set-lt (suc d) j d e (omega arith))

  -- no room: the oldest goes
  pub push_full : (a : List Undo) → 64 ≤ d → a ≡ copy_within j 1 (length j) 0 → set a 63 e ≡ noting e d j
  push_full a h down =
      let b = set a 63 e in
      let is : a ≡ drop 1 j ++ drop 63 j = down ∙ rw (long, copied 1 64 0 j (omega arith), take_all 64 j (omega arith)) in
      let kept : length a ≡ 64 = ap length is ∙ simp (length-append, length-drop) (omega arith) in
      let moved : take 63 a ≡ drop 1 j = rw is (take_at (drop 1 j) (drop 63 j) 63 (omega (arith, length-drop 1 j))) in
      journal_is j b 64 (noted e (newest_first d j)) (omega (arith, length-set a 63 e))
      (rw (take-suc-set a 63 e (omega arith), reverse-append, moved, take_all d j (omega arith)) (ap (λ (r : List Undo). e ∷ r) (sym (drop_oldest j 63 long))))
      (drop_of_length-le b {i = 64} (omega (arith, length-set a 63 e)) ∙ sym (drop_of_length-le j {i = 64} (omega arith)))
    where
      -- the newest n of n + 1 entries: those without the oldest
      drop_oldest : (j : List Undo) (n : ℕ) → length j ≡ suc n → take n (reverse j) ≡ reverse (drop 1 j)
      drop_oldest [] n h = absurd (omega arith)
      drop_oldest (x ∷ j) n h = rw (reverse-cons x j) (take_at (reverse j) (x ∷ []) n (omega (arith, length-reverse j)))

-- the newest entry, and those before it
pub pop : (j : List Undo) (d : ℕ) → d ≤ length j → (d ≡ 0 → ⊥) → newest_first d j ≡ newest_of d j ∷ newest_first (d - 1) j
pop j zero h some = absurd (some refl)
pop j (suc d) h some =
    let back : suc d - 1 ≡ d = omega arith in
    rw (back, take-suc j d blank_entry h, reverse-append)
