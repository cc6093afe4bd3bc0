-- The remarks written one by one, and the answer of a repair at each way out. Assumes nothing.
use Rattle.basis.proofs.Prelude.{drop-cons, ◌∙◌, ◌≡◌, ap, refl, sym, ◌*◌, ◌+◌, ◌-◌, ◌<◌, ◌≤◌, suc, ℕ, List, [], ◌++◌, ◌∷◌, append_assoc, append-nil, leb, drop, drop_of_length-le, get_or, length, length-append, length-replicate, length-set, length-take-le, replicate, set, take, take_at, add-one, arith, le-leb, leb-true, lt-leb, ne_eqb, by_test}
use mathlib.Core.Bool.{and-false}
use Rattle.std.specs.Prelude.{Ok, Err}
use Rattle.refusal.{specs.{declared.Refusal.Refusal, Numbers.number_of}, proofs.Numbers.refused}
use Rattle.buffer.specs.Buffer.{over}
use Rattle.orders.{specs.Orders.sorted_by, proofs.Sorting.sorted_length}
use Rattle.spell.{specs.declared.Spell.Spell, specs.Blank.blank, specs.Order.earlier_of}
use Rattle.register.{specs.Text.write_all, specs.Answers.{Writes, Written, written_in}}
use Rattle.repairing.{specs.{Repair.{lines_of, verdicts_after, kept_of, put_of, repaired_text, remarks_from, places_of, remarks_of, displaced_in}, Answers.{fitting, repair_refusal, repair_refused, Repairs}}, proofs.{Claims.kept_or_dropped, Remarks.{few, verdicts_length, places_length, put_more, put_sized, taken_from}}}
use Rattle.register_sift.{specs.declared.Sifted.Sifted, specs.Sifting.{within_limit, Sifts}, proofs.Sifting.within}

-- ---- The remarks

-- what is said of the lines from place i on, of those that met so
abbrev pub to_say : List ℕ → ℕ → List ℕ
to_say met i = places_of (remarks_from (suc i) (drop i met))

-- the remarks of the first i lines stand in the first k places
pub record Saying (met : List ℕ) (entry now : List ℕ) (i k : ℕ) : Type 0 where
  pub done : List ℕ
  pub here : length done ≡ k
  pub whole : to_say met 0 ≡ done ++ to_say met i
  pub places : now ≡ done ++ drop k entry
  pub sized : length now ≡ length entry
  pub most : k ≤ 2 * i

pub saying_none : (met entry : List ℕ) → Saying met entry entry 0 0
saying_none met entry = record { done = []; here = refl; whole = refl; places = refl; sized = refl; most = omega arith }

module _ (met : List ℕ) (entry now : List ℕ) (i k : ℕ) (s : Saying met entry now i k) where
  module _ (h : i < length met) where
    next : drop i met ≡ get_or met i 0 ∷ drop (suc i) met
    next = drop-cons met i 0 h

    pub passes_over : get_or met i 0 ≡ 0 → Saying met entry now (i + 1) k
    passes_over e = unfold remarks_from in
        record { done = s.done; here = s.here; whole = s.whole ∙ rw (next, e, add-one i); places = s.places; sized = s.sized; most = omega arith }

    module _ (z : get_or met i 0 ≡ 0 → ⊥) (room : length (to_say met 0) ≤ length entry) where
      said : to_say met i ≡ suc i ∷ get_or met i 0 ∷ to_say met (i + 1)
      said = unfold remarks_from places_of in rw (next, ne_eqb (get_or met i 0) 0 z, add-one i)

      -- there are two places for it
      two_left : k + 2 ≤ length now
      two_left = omega (arith, ap length s.whole, length-append s.done (to_say met i), ap length said)

      pub one_place : k < length now
      one_place = omega (arith, two_left)

      pub next_place : (v : ℕ) → k + 1 < length (set now k v)
      next_place v = omega (arith, two_left, length-set now k v)

      pub says_one : (v : ℕ) → v ≡ get_or met i 0 → Saying met entry (set (set now k (i + 1)) (k + 1) v) (i + 1) (k + 2)
      says_one v e =
          let a = s.done ++ ((i + 1) ∷ []) in
          let here = length-append s.done ((i + 1) ∷ []) in
          let one = put_more s.done entry k (i + 1) s.here (omega (arith, two_left)) in
          let two = put_more a entry (k + 1) v (omega arith) (omega (arith, two_left)) in
          let up : k + 2 ≡ k + 1 + 1 = omega arith in
          record {
            done = a ++ (v ∷ []);
            here = length-append a (v ∷ []) ∙ omega arith;
            whole = s.whole ∙ rw (said, ← e, ← add-one i, append_assoc, append_assoc);
            places = rw (s.places, one, two, up);
            sized = simp length-set s.sized;
            most = omega arith;
          }

  pub all_said : length met ≤ i → now ≡ over (to_say met 0) entry
  all_said h = unfold remarks_from places_of in
      let over = drop_of_length-le met h in
      let whole : to_say met 0 ≡ s.done = s.whole ∙ rw (over, append-nil) in
      cc

-- ---- A refusal

refuses : (t out remarks : List ℕ) (k : ℕ) → (k ≡ 0 → ⊥) → repair_refusal t (length out) (length remarks) ≡ k → Repairs t out remarks (repair_refused k) out remarks
refuses t out remarks k z e = let no = ne_eqb (repair_refusal t (length out) (length remarks)) 0 (λ n. z (sym e ∙ n)) in
    record { answer = rw (no, e); text = rw no; said = rw no }

pub too_long : (t out remarks : List ℕ) → 65536 < length t → Repairs t out remarks (repair_refused 12) out remarks
too_long t out remarks h = unfold repair_refusal in refuses t out remarks 12 (λ z. omega arith) (rw (lt-leb (length t) 65536 h))

-- a list is as long as before
pub out_sized : (t out out' : List ℕ) (w : Written) → Writes t out w out' → length out' ≡ length out
out_sized t out out' w wrote = by_test (leb (length t) (length out))
    (λ f. put_sized t out (leb-true (length t) (length out) f) (wrote.places ∙ rw f)) (λ f. ap length wrote.places ∙ rw f)

-- ---- What sifting leaves

-- the kept spells in the first places, and what each line met; each line is kept or dropped
pub record Known (text met : List ℕ) (r : Sifted) : Type 0 where
  pub short : length text ≤ 65536
  pub many : r.lines ≤ 65536
  pub sized : 65536 ≡ length met
  pub kept : take r.count r.spells ≡ kept_of text
  pub count : length (kept_of text) ≡ r.count
  pub said : places_of (remarks_from 1 (take r.lines met)) ≡ places_of (remarks_of text)
  pub dropped : 2 * r.count + length (places_of (remarks_of text)) ≡ 2 * r.lines

pub known : {text met : List ℕ} {r : Sifted} → length text ≤ 65536 → Sifts (within_limit text) (replicate 65536 0) r met → Known text met r
known {text} {met} {r} short sifts =
    let s : Sifts text (replicate 65536 0) r met = rw (within text short) at sifts in
    let verdicts = verdicts_after [] (lines_of text) in
    let each = verdicts_length [] (lines_of text) in
    let lines : length verdicts ≡ r.lines = cc in
    let count : length (kept_of text) ≡ r.count = cc in
    let zeros = length-replicate {A = ℕ} 65536 0 in
    let front : take r.lines met ≡ verdicts = cc (take_at verdicts (drop (length verdicts) (replicate 65536 0)) r.lines lines) in
    record {
      short = short;
      many = omega (arith, few text);
      sized = omega (arith, put_sized verdicts (replicate 65536 0) (omega (arith, few text)) s.said);
      kept = cc (take_at (kept_of text) (drop (length (kept_of text)) (replicate 1024 blank)) r.count count);
      count = count;
      said = cc;
      dropped = omega (arith, kept_or_dropped text, places_length (remarks_of text));
    }

module _ {text met : List ℕ} {r : Sifted} (k : Known text met r) where
  pub remarks_short : (out remarks : List ℕ) → length remarks < 2 * (r.lines - r.count) → Repairs text out remarks (repair_refused 11) out remarks
  remarks_short out remarks h = unfold repair_refusal fitting in
      let no = lt-leb (length (places_of (remarks_of text))) (length remarks) (omega arith) in
      refuses text out remarks 11 (λ z. omega arith) (rw (le-leb (length text) 65536 k.short, no, and-false))

  module _ (remarks : List ℕ) (room : 2 * (r.lines - r.count) ≤ length remarks) where
    pub said_sized : (remarks' : List ℕ) → remarks' ≡ over (places_of (remarks_from 1 (take r.lines met))) remarks → length remarks' ≡ length remarks
    said_sized remarks' said = put_sized (places_of (remarks_of text)) remarks (omega arith) (rw k.said at said)

    module _ (out : List ℕ) (a : List Spell) (ordered : a ≡ over (sorted_by earlier_of (take r.count r.spells)) r.spells) (out' : List ℕ) where
      wrote : {w : Written} → Writes (write_all (take r.count a)) out w out' → Writes (repaired_text text) out w out'
      wrote written =
          let first = take_at (put_of text) (drop (length (put_of text)) r.spells) r.count (sorted_length earlier_of (kept_of text) ∙ k.count) in
          rw (ordered, k.kept, first) at written

      -- a writing is refused as 11 where the list is too short, and by nothing else
      pub text_short : (e : Refusal) → Writes (write_all (take r.count a)) out (written_in (Err e)) out' → Repairs text out remarks (repair_refused (number_of e)) out' remarks
      text_short e written = unfold repair_refusal fitting in by_test (leb (length (repaired_text text)) (length out))
          (λ f. absurd (refused e (ap (λ (w : Written). w.refusal) (wrote written).answer ∙ rw f)))
          (λ f.
          let eleven : number_of e ≡ 11 = ap (λ (w : Written). w.refusal) (wrote written).answer ∙ rw f in
          rw (rw f at (wrote written).places, eleven) (refuses text out remarks 11 (λ z. omega arith) (rw (le-leb (length text) 65536 k.short, f))))

      pub given : (n : ℕ) → Writes (write_all (take r.count a)) out (written_in (Ok n)) out' → (remarks' : List ℕ) (displaced : ℕ)
          → remarks' ≡ over (places_of (remarks_from 1 (take r.lines met))) remarks → displaced ≡ displaced_in (take r.count r.spells)
          → Repairs text out remarks (record { refusal = 0; line = 0; length = n; dropped = r.lines - r.count; displaced = displaced }) out' remarks'
      given n written remarks' displaced said d = unfold repair_refusal fitting in by_test (leb (length (repaired_text text)) (length out))
          (λ f.
          let all = le-leb (length text) 65536 k.short in
          let put = le-leb (length (places_of (remarks_of text))) (length remarks) (omega arith) in
          let is : n ≡ length (repaired_text text) = ap (λ (w : Written). w.length) (wrote written).answer ∙ rw f in
          let dropped : r.lines - r.count ≡ length (remarks_of text) = omega (arith, places_length (remarks_of text)) in
          record { answer = rw (all, f, put, is, d, k.kept, dropped); text = rw (all, f, put) ((wrote written).places ∙ rw f); said = rw (all, f, put) (rw k.said at said) })
          (λ f. let eleven : 0 ≡ 11 = ap (λ (w : Written). w.refusal) (wrote written).answer ∙ rw f in absurd (omega arith))
