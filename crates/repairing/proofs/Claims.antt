-- What repairing a register is for. Assumes nothing.
use Rattle.basis.proofs.Prelude.{◌∙◌, ◌≡◌, ap, refl, sym, ◌+◌, ◌*◌, ◌≤◌, ℕ, List, List-as-Memᴰ, [], ◌∷◌, map, false, true, ◌↔◌, eqb, eqb-true, leb, length, arith, le-leb, leb-true, both, by_test}
use Rattle.repairing.proofs.{Names.{is_in_order_by, Spell, earlier_of, ordered, ordered_by, Good, Sound, text_order, asym, read_text, good, rising, over, HostRepaired, lines_of, verdicts_after, kept_of, put_of, repaired_text, remarks_of, places_of, displaced_in, fitting, repair_refusal, repair_refused, repair_given, Repairs}, Keeping.{kept_good, whole}, Remarks.{displaced_none, rise, all_lines, places_length, put_sized}}
use Rattle.orders.{proofs.Sorting.in_order_sorted, proofs.Members.sorted_has}
use Rattle.spell.proofs.{Entered.needed, Sorted.sorted_orderly}
use Rattle.register.proofs.Claims.{list_again, text_again, fits}

-- what is put into the order can stand
pub put_good : (t : List ℕ) → Good (put_of t)
put_good t = let k = kept_good t in sorted_orderly text_order Sound (kept_of t) k.each k.unique k.few

-- WHAT COMES OUT READS AS ACCEPTED, whatever came in, and to exactly the kept spells, put into the order
pub reads_accepted : (t : List ℕ) → read_text (repaired_text t) ≡ good (put_of t)
reads_accepted t = list_again (put_of t) (put_good t)

-- put into the order: the same spells
pub same_spells : (t : List ℕ) (s : Spell) → List-as-Memᴰ s (put_of t) ↔ List-as-Memᴰ s (kept_of t)
same_spells t s = sorted_has earlier_of (kept_of t) s

-- no spell of a list in the order comes before the one that it follows
in_order : (l : List Spell) → ordered l ≡ true → is_in_order_by earlier_of l ≡ true
unfolding ordered_by is_in_order_by
in_order [] h = refl
in_order (x ∷ []) h = refl
in_order (x ∷ y ∷ l) h = let p = both (earlier_of x y) (ordered (y ∷ l)) h in rw (asym text_order x y p.0) (in_order (y ∷ l) p.1)

-- A GOOD REGISTER passes through unaltered with nothing said, and no line is displaced
pub record Unaltered (t : List ℕ) (l : List Spell) : Type 0 where
  pub text : repaired_text t ≡ t
  pub silent : remarks_of t ≡ []
  pub kept : kept_of t ≡ l
  pub in_place : displaced_in (kept_of t) ≡ 0

pub unaltered : (t : List ℕ) (l : List Spell) → read_text t ≡ good l → Unaltered t l
unaltered t l e =
    let w = text_again t l e in
    let k = whole l [] w.1.each w.1.unique w.1.few in
    let sorted = in_order_sorted earlier_of l (in_order l w.1.in_order) in
    let in_place = (displaced_none l w.1.unique).1 w.1.in_order in
    record { text = cc; silent = cc (k.1 1); kept = cc; in_place = cc }

-- REPAIRED TWICE IS REPAIRED ONCE: the second time nothing is altered and nothing said
pub twice : (t : List ℕ) → Unaltered (repaired_text t) (put_of t)
twice t = unaltered (repaired_text t) (put_of t) (reads_accepted t)

-- REMARKS RISE by line
pub rises : (t : List ℕ) → rising (map (λ r. r.line) (remarks_of t)) ≡ true
rises t = (rise 1 (verdicts_after [] (lines_of t))).0

-- EVERY LINE is kept or has its remark
pub kept_or_dropped : (t : List ℕ) → length (kept_of t) + length (remarks_of t) ≡ length (lines_of t)
kept_or_dropped t = omega (arith, all_lines 1 [] (lines_of t))

-- THE THIRD NUMBER IS 0 exactly where the kept lines stood in the order
pub displaced_none_exactly : (t : List ℕ) → (displaced_in (kept_of t) ≡ 0) ↔ (ordered (kept_of t) ≡ true)
displaced_none_exactly t = displaced_none (kept_of t) (kept_good t).unique

-- what comes out is never longer than this
pub text_fits : (t : List ℕ) → length (repaired_text t) ≤ 33792
text_fits t = fits (put_of t) (put_good t)

-- ---- The lent lists

-- what is given lies inside the lists, which are as long as before
pub record Inside (out remarks : List ℕ) (r : HostRepaired) (out' remarks' : List ℕ) : Type 0 where
  pub text : r.length ≤ length out
  pub said : 2 * r.dropped ≤ length remarks
  pub text_sized : length out' ≡ length out
  pub said_sized : length remarks' ≡ length remarks

module _ {t out remarks out' remarks' : List ℕ} {r : HostRepaired} (a : Repairs t out remarks r out' remarks') where
  -- the number that it meets
  abbrev met : ℕ
  met = repair_refusal t (length out) (length remarks)

  refused : eqb met 0 ≡ false → (out' ≡ out) × (remarks' ≡ remarks) × (r ≡ repair_refused met)
  refused e = (a.text ∙ rw e, a.said ∙ rw e, a.answer ∙ rw e)

  -- A REFUSAL leaves both lists as they were, and gives 0 for line, length and counts
  pub refused_keeps : (r.refusal ≡ 0 → ⊥) → (out' ≡ out) × (remarks' ≡ remarks) × (r ≡ repair_refused r.refusal)
  refused_keeps z = by_test (eqb met 0)
      (λ e. absurd (z (ap (λ (r : HostRepaired). r.refusal) a.answer ∙ rw e)))
      (λ e. let k = refused e in (cc, cc, cc))

  -- what is given lies inside
  pub within : Inside out remarks r out' remarks'
  within = unfold repair_refusal fitting in by_test (eqb met 0)
      (λ e.
      let fit = both (leb (length (repaired_text t)) (length out)) (leb (length (places_of (remarks_of t))) (length remarks)) (needed _ 10 0 (needed (leb (length t) 65536) 11 _ (eqb-true met 0 e)).1).0 in
      let is : r ≡ repair_given t = a.answer ∙ rw e in
      let text = put_sized (repaired_text t) out (omega (arith, leb-true)) (a.text ∙ rw e) in
      let said = put_sized (places_of (remarks_of t)) remarks (omega (arith, leb-true)) (a.said ∙ rw e) in
      rw is (omega (arith, leb-true, places_length (remarks_of t))))
      (λ e. let k = refused e in rw (k.0, k.1, k.2) (search arith))

  -- GIVEN ROOM, a good register stands in the first places as it came, and nothing is said
  pub passes_through : (l : List Spell) → read_text t ≡ good l → length t ≤ length out
      → (out' ≡ over t out) × (remarks' ≡ remarks) × (r ≡ record { refusal = 0; line = 0; length = length t; dropped = 0; displaced = 0 })
  passes_through l e room = unfold repair_refusal fitting places_of in
      let u = unaltered t l e in
      let w = text_again t l e in
      let short = le-leb (length t) 65536 (omega (arith, ap length w.0, fits l w.1)) in
      let none : met ≡ 0 = rw (short, u.text, le-leb (length t) (length out) room, u.silent) (rw (le-leb 0 (length remarks) (omega arith))) in
      (cc, cc, cc)
