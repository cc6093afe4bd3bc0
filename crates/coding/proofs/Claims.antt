-- The calls that are still coded, at a code that is one and at one that is none; and every list of calls has words. Assumes nothing.
use Rattle.basis.proofs.Prelude.{◌∙◌, ◌≡◌, refl, sym, suc, zero, ℕ, List, [], ◌∷◌, Bool, cond, false, true, leb, drop, length, take, leb-true, ap, ◌*◌, ◌<◌, ◌≤◌, ◌++◌, append_assoc, length-append, drop_at, get_or-append-add, take_at, mod-eq_of_lt, arith, le-leb}
use Rattle.std.specs.Prelude.{Option, Some, None}
use Rattle.model.specs.{declared.{Call.{Call, TheVariants.{Enter, Amend, Strike, TakeBack, Publish, Write, Ask}}, Question.TheVariants.{Day, Span, Cover, Days, Mask}}, Model.Request}
use Rattle.coding.specs.{declared.Code.Code, Coded.{code_at, next_of, decode_from, code_width, low16, urgency_of, call_of, Value, urgent, masked, Fields, spell_fields, fields_of, op_of, whole_of}, Coding.{Wide, Fits, Codable, lent_days, lent_numbers, lent_text, Coding}, Clauses.Room}
use lib.Ieee.{binary32, Bits.{of_bits-to_bits, to_bits-lt}}
use Rattle.spell.specs.declared.{Urgency.{Urgency, TheVariants.{Grade, Reading}}, Spell.Spell}
use Rattle.packing.specs.{Words.{kind_of, value_of, Narrow}, Blocks.{written, Every}}

-- ---- A call is found only where there is room

picked : (b : Bool) (y : Option Call) (q : Call) → cond b y None ≡ Some q → b ≡ true
picked true y q e = refl
picked false y q e = cc

pub next_room : {c : Code} {days numbers text : ℕ} {x : Option Call} {q : Call} → x ≡ next_of c days numbers text → x ≡ Some q → Room c days numbers text
next_room {c} {days} {numbers} {text} {q = q} e go = unfold next_of in
    let d : leb c.days days ≡ true = picked (leb c.days days) _ q (sym e ∙ go) in
    let n : leb c.numbers numbers ≡ true = picked (leb c.numbers numbers) _ q (rw d at (sym e ∙ go)) in
    let t : leb c.text text ≡ true = picked (leb c.text text) _ q (rw (d, n) at (sym e ∙ go)) in
    search leb-true

-- ---- The calls that are still coded

module _ (codes days numbers text : List ℕ) (k : ℕ) where
  pub decode_stop : (n : ℕ) → next_of (code_at codes k) (length days) (length numbers) (length text) ≡ None
      → decode_from codes n k days numbers text ≡ []
  unfolding decode_from
  decode_stop zero e = refl
  decode_stop (suc n) e = simp e

  pub decode_go : (n : ℕ) (c : Code) (q : Call) → c ≡ code_at codes k → next_of c (length days) (length numbers) (length text) ≡ Some q
      → decode_from codes (suc n) k days numbers text
      ≡ record { call = q; days = take c.days days; numbers = take c.numbers numbers; text = take c.text text }
      ∷ decode_from codes n (suc k) (drop c.days days) (drop c.numbers numbers) (drop c.text text)
  decode_go n c q ec e = unfold decode_from in rw (← ec) (simp e)

-- ---- The words of a call

abbrev kind_in : Value → ℕ
kind_in (urgent u) = kind_of u
kind_in (masked k) = 0

abbrev value_in : Value → ℕ
value_in (urgent u) = value_of u
value_in (masked k) = k

abbrev words_of : ℕ → Fields → ℕ → ℕ → ℕ → List ℕ
words_of op f d n t = op ∷ f.number ∷ f.candidate ∷ f.first ∷ f.last ∷ kind_in f.value ∷ value_in f.value ∷ d ∷ n ∷ t ∷ []

abbrev request_words : Request → List ℕ
request_words q = words_of (op_of q.call) (fields_of q.call) (length q.days) (length q.numbers) (length q.text)

-- ---- They read back as the call

value_narrow : (u : Urgency) → Narrow u → value_of u < 4294967296
value_narrow (Grade g) h = omega arith
value_narrow (Reading x) h = to_bits-lt binary32 x h

urgency_back : (u : Urgency) → Narrow u → urgency_of (kind_of u) (value_of u) ≡ u
urgency_back (Grade g) h = ap Grade (mod-eq_of_lt (omega arith))
urgency_back (Reading x) h = rw (mod-eq_of_lt (value_narrow (Reading x) h)) (ap Reading (of_bits-to_bits binary32 x h))

spell_back : (s : Spell) → Fits (spell_fields s)
    → record { number = low16 s.number; candidate = low16 s.candidate; first = low16 s.first; last = low16 s.last; urgency = urgency_of (kind_of s.urgency) (value_of s.urgency) } ≡ s
spell_back s f = rw (mod-eq_of_lt f.number, mod-eq_of_lt f.candidate, mod-eq_of_lt f.first, mod-eq_of_lt f.last, urgency_back s.urgency f.value)

call_back : (c : Call) (d n t : ℕ) (rest : List ℕ) → Fits (fields_of c)
    → (call_of (code_at (words_of (op_of c) (fields_of c) d n t ++ rest) 0) ≡ Some c) × (op_of c ≤ 11)
unfolding code_at call_of
call_back (Enter s) d n t rest f = (ap (λ (x : Spell). Some (Enter x)) (spell_back s f), omega arith)
call_back (Amend s) d n t rest f = (ap (λ (x : Spell). Some (Amend x)) (spell_back s f), omega arith)
call_back (Strike k) d n t rest f = (rw (mod-eq_of_lt f.number), omega arith)
call_back TakeBack d n t rest f = (refl, omega arith)
call_back (Publish rule) d n t rest f = (rw (mod-eq_of_lt f.number), omega arith)
call_back Write d n t rest f = (refl, omega arith)
call_back (Ask (Day e)) d n t rest f = (rw (mod-eq_of_lt f.first), omega arith)
call_back (Ask (Span a b)) d n t rest f = (rw (mod-eq_of_lt f.first, mod-eq_of_lt f.last), omega arith)
call_back (Ask (Cover k)) d n t rest f = (rw (mod-eq_of_lt f.number), omega arith)
call_back (Ask Days) d n t rest f = (refl, omega arith)
call_back (Ask (Mask b k)) d n t rest f = (rw (mod-eq_of_lt f.first), omega arith)

-- ---- A code after others

code_at_lem : (pre r : List ℕ) (k : ℕ) → length pre ≡ code_width * k → code_at (pre ++ r) k ≡ code_at r 0
code_at_lem pre r k e = unfold code_at in rw (← e) (simp get_or-append-add)

-- ---- A list of calls

abbrev codes_of : List Request → List ℕ
codes_of qs = written request_words qs

-- after the codes of k calls, those of qs are qs
from : (qs : List Request) (pre : List ℕ) (k : ℕ) → length pre ≡ code_width * k → Every Codable qs
    → decode_from (pre ++ codes_of qs) (length qs) k (lent_days qs) (lent_numbers qs) (lent_text qs) ≡ qs
unfolding written Every decode_from code_at next_of
from [] pre k e f = refl
from (q ∷ qs) pre k e f =
    let r : List ℕ = codes_of qs in
    let w : List ℕ = request_words q in
    let next : decode_from (pre ++ (w ++ r)) (length qs) (suc k) (lent_days qs) (lent_numbers qs) (lent_text qs) ≡ qs =
    rw append_assoc at (from qs (pre ++ w) (suc k) (omega (arith, length-append pre w)) f.1) in
    let d : length q.days ≤ length (q.days ++ lent_days qs) = omega (arith, length-append q.days (lent_days qs)) in
    let n : length q.numbers ≤ length (q.numbers ++ lent_numbers qs) = omega (arith, length-append q.numbers (lent_numbers qs)) in
    let t : length q.text ≤ length (q.text ++ lent_text qs) = omega (arith, length-append q.text (lent_text qs)) in
    decode_go (pre ++ (w ++ r)) (q.days ++ lent_days qs) (q.numbers ++ lent_numbers qs) (q.text ++ lent_text qs) k (length qs) (code_at (w ++ r) 0) q.call
    (sym (code_at_lem pre (w ++ r) k e))
    (rw (le-leb _ _ d, le-leb _ _ n, le-leb _ _ t) (call_back q.call (length q.days) (length q.numbers) (length q.text) r f.0.call).0)
    ∙ simp (take_at, drop_at, next)

codes_long : (qs : List Request) → length (codes_of qs) ≡ code_width * length qs
unfolding written
codes_long [] = refl
codes_long (q ∷ qs) = omega (arith, codes_long qs)

value_few : (v : Value) → Wide v → (kind_in v ≤ 1) × (value_in v < 18446744073709551616)
value_few (urgent (Grade g)) h = omega arith
value_few (urgent (Reading x)) h = let n = value_narrow (Reading x) h in omega arith
value_few (masked k) h = omega arith

words_narrow : (qs : List Request) → Every Codable qs → Every (λ (w : ℕ). w < 18446744073709551616) (codes_of qs)
unfolding written Every
words_narrow [] f = tt
words_narrow (q ∷ qs) f =
    let h = f.0.call in
    let op = (call_back q.call 0 0 0 [] h).1 in
    let value = value_few (fields_of q.call).value h.value in
    let later = words_narrow qs f.1 in
    search arith depth 12

-- ---- The claim

-- EVERY LIST OF CALLS HAS A CODING
pub every_coded : (qs : List Request) → Every Codable qs → Coding qs
every_coded qs f = record {
  codes = codes_of qs;
  narrow = words_narrow qs f;
  decodes = λ results room.
      let z : whole_of (codes_of qs) results ≡ length qs = omega (arith, codes_long qs) in
      rw z (from qs [] 0 refl f);
}
