-- The digits of a number, put into a list from the last to the first. Assumes nothing.
use Rattle.decimals.proofs.{Decimals.{digits_more, digits_one}, Names.{List, Put, Puts, ◌%◌, ◌+◌, ◌-◌, ◌/◌, ◌<◌, ◌^◌, ◌≡◌, ◌≤◌, ap, arith, digits_width, digits_of, digits_text, drop, length, length-drop, put_end, put_on, put_one, put_place, puts_room, set, suc, ℕ}}

-- the digits of n, at most k + 1, before what stands from `start` on: those of v are still to be put before the place i
pub record Digits (k n : ℕ) (entry : List ℕ) (start : ℕ) (buf : List ℕ) (i v : ℕ) : Type 0 where
  pub so_far : Put entry buf i (drop i buf)
  pub back : i ≤ start
  pub small : v < 10 ^ suc k
  pub short : length (digits_of k n (drop start entry)) ≤ length entry
  pub ahead : digits_of k v (drop i buf) ≡ digits_of k n (drop start entry)

pub digits_none : (k n e at : ℕ) (buf : List ℕ) → k + 2 ≤ at → at ≤ length buf → n < 10 ^ suc k → Digits k n (set buf (at - 1) e) (at - 1) (set buf (at - 1) e) (at - 1) n
digits_none k n e at buf h l s =
    let p = put_end e at buf (omega arith) l in
    let w = digits_width k n (drop (at - 1) (set buf (at - 1) e)) in
    search (arith, length-drop (at - 1) (set buf (at - 1) e))

module _ {k n : ℕ} {entry : List ℕ} {start : ℕ} {buf : List ℕ} {i v : ℕ} (d : Digits k n entry start buf i v) where
  pub digits_room : 1 ≤ i
  digits_room = omega (arith, put_place d.so_far, d.short, (digits_width k v (drop i buf)).0, ap length d.ahead)

  pub digits_inside : i - 1 < length buf
  digits_inside = omega (arith, d.so_far.sized, d.so_far.inside, digits_room)

  pub digits_step : 10 ≤ v → Digits k n entry start (set buf (i - 1) (48 + v % 10)) (i - 1) (v / 10)
  digits_step h = let p = put_one (48 + v % 10) d.so_far digits_room in search (arith, digits_more k v (drop i buf) h d.small)

pub digits_all : (k n e at i v : ℕ) (orig buf : List ℕ) → k + 2 ≤ at → at ≤ length orig → Digits k n (set orig (at - 1) e) (at - 1) buf i v → v < 10
    → Puts (k + 2) (digits_text k n e) orig at (i - 1) (set buf (i - 1) (48 + v))
digits_all k n e at i v orig buf h l d s =
    let p = put_end e at orig (omega arith) l in
    let last = put_one (48 + v) d.so_far (digits_room d) in
    let text = digits_one k v (drop i buf) s in
    puts_room (k + 2) (digits_text k n e) h l (put_on p (rw (← text, d.ahead, p.written) at last) (omega (arith, d.back)))
