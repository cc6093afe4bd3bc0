-- Eight hex digits, put into a list from the last to the first. Assumes nothing.
use Rattle.basis.proofs.Prelude.{◌≡◌, ◌%◌, ◌+◌, ◌-◌, ◌/◌, ◌<◌, ◌≤◌, suc, ℕ, List, drop, length, set, arith}
use Rattle.fields.{specs.{Fields.{hex_digit, hex_of, bits_text}, Answers.Puts}, proofs.Puts.{Put, put_end, put_one, put_on, puts_room}}

-- the eight hex digits of n before what stands from `start` on: those from the place i on stand there, and are those left of v with them
pub record Hexes (n : ℕ) (entry : List ℕ) (start : ℕ) (buf : List ℕ) (i v : ℕ) : Type 0 where
  pub so_far : Put entry buf i (drop i buf)
  pub back : i ≤ start
  pub few : start ≤ i + 8
  pub ahead : hex_of (i + 8 - start) v (drop i buf) ≡ hex_of 8 n (drop start entry)

pub hexes_none : (n e at : ℕ) (buf : List ℕ) → 9 ≤ at → at ≤ length buf → Hexes n (set buf (at - 1) e) (at - 1) (set buf (at - 1) e) (at - 1) n
hexes_none n e at buf h k =
    let p = put_end e at buf (omega arith) k in
    let all : at - 1 + 8 - (at - 1) ≡ 8 = omega arith in
    search arith

pub hexes_step : {n : ℕ} {entry : List ℕ} {start : ℕ} {buf : List ℕ} {i v d : ℕ} → Hexes n entry start buf i v → 8 ≤ start → start < i + 8 → d ≡ hex_digit (v % 16)
    → Hexes n entry start (set buf (i - 1) d) (i - 1) (v / 16)
hexes_step {start = start} {buf} {i} {v} {d} x room h is = unfold hex_of in
    let left : i + 8 - start ≡ suc (i - 1 + 8 - start) = omega arith in
    let p = put_one d x.so_far (omega arith) in
    search arith

pub hexes_all : (n e at i v : ℕ) (orig buf : List ℕ) → 9 ≤ at → at ≤ length orig → Hexes n (set orig (at - 1) e) (at - 1) buf i v → i ≤ at - 9
    → Puts 9 (bits_text n e) orig at (at - 9) buf
hexes_all n e at i v orig buf h l x d = unfold hex_of in
    let p = put_end e at orig (omega arith) l in
    let done : i + 8 - (at - 1) ≡ 0 = omega arith in
    let first : i ≡ at - 9 = omega (arith, x.few) in
    let whole : drop i buf ≡ hex_of 8 n (drop (at - 1) (set orig (at - 1) e)) = rw done at x.ahead in
    puts_room 9 (bits_text n e) h l (put_on p (rw first at (rw (whole, p.written) at x.so_far)) (omega arith))
