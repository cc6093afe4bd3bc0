-- A word put into the first places of a buffer, and after it the numbers that end another. Assumes nothing.
use Rattle.basis.proofs.Prelude.{◌≡◌, ap, ◌+◌, ◌≤◌, ℕ, List, [], ◌++◌, ◌∷◌, drop, drop_of_length-le, length, length-append, length-drop, arith, rules}
use lib.Dec.{lit≤}
use Rattle.fields.{specs.{Fields.wide_text, Answers.Puts}, proofs.{Puts.{room_puts, put_place}, Widths.digits_width}}
use Rattle.gathering.{specs.Gathering.Appended, proofs.Gathering.{appended_room, appends_on, sized as kept-length}}
use Rattle.repair_text.specs.Lines.{Says}

-- the text t ends a list of 63 places, from the place i on, and k places or more are left before it
pub record Ending (buf : List ℕ) (i : ℕ) (t : List ℕ) (k : ℕ) : Type 0 where
  pub sized : length buf ≡ 63
  pub inside : i ≤ 63
  pub room : k ≤ i
  pub written : drop i buf ≡ t

pub ending_none : (l : List ℕ) (k : ℕ) → length l ≡ 63 → k ≤ 63 → Ending l 63 [] k
ending_none l k h room = let written = drop_of_length-le l {i = 63} (omega arith) in search arith

-- one number more before it
pub ending_more : (b c : List ℕ) (i j k : ℕ) (t : List ℕ) (n e : ℕ) → Ending b i t (k + 21) → Puts 21 (wide_text n e) b i j c → Ending c j (wide_text n e t) k
ending_more b c i j k t n e p q =
    let width = (digits_width 19 n (e ∷ drop i b)).1 in
    let put = room_puts 21 (wide_text n e) (omega arith) (omega arith) (omega arith) q in
    let place = put_place put in
    let left = length-drop i b in
    let written : drop j c ≡ wide_text n e t = rw (← p.written) put.written in
    search arith

-- a word of at most nine bytes, and what ends the list after it
pub said : (word entry mid exit numbers t : List ℕ) (i n r : ℕ) → Ending numbers i t 0 → length word ≤ 9 → length entry ≡ 72
    → Appended word entry 0 n mid → Appended (drop i numbers) mid n r exit → Says (word ++ t) entry r exit
said word entry mid exit numbers t i n r e short size p q =
    let long : length t ≤ 63 = rw (← e.written) (simp length-drop (omega arith)) in
    let a = appended_room word entry 0 n mid p (omega arith) in
    let same = kept-length (omega arith) a (omega (arith, a.place)) in
    let b = appended_room t mid n r exit (rw e.written at q) (omega (arith, a.place)) in
    let both = appends_on (omega arith) a (omega (arith, a.place)) b in
    record { fits = simp length-append (omega arith); place = omega (arith, both.place); places = both.places }

pub ruleset ending = (ending_none, ending_more, lit≤, rules)

-- what is said lies inside the buffer
pub inside : {line entry exit : List ℕ} {r : ℕ} → Says line entry r exit → r ≤ length exit
inside s = rw s.places (simp length-append (omega (arith, s.place)))
