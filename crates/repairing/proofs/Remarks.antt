-- What is told of a repair. The remarks: their lines rise, and each line of a text is kept or has one. How many kept lines now stand after a line that
-- followed them: by the least of those that followed, and when it is none. Assumes nothing.
use Rattle.basis.proofs.Prelude.{◌∙◌, ◌≡◌, ap, refl, sym, ◌*◌, ◌+◌, ◌<◌, ◌≤◌, suc, ℕ, List, [], ◌++◌, ◌∷◌, append_snoc, map, Bool, cond, false, true, ◌↔◌, eqb, eqb-false, drop, drop-cons, get_or, get_or-take, length, length-append, length-take, min-le_left, set, set_at, take, add-one, arith, lt-ltb, by_cases, by_test, clash, untrue}
use Rattle.repairing.proofs.Names.{over, Spell, earlier_of, ordered, ordered_by, stands, distinct, Each, alone, neither, text_order, asym, ordered_tail, ordered_first, ordered_cons, some_before, displaced_in, Found, found, unreadable, read_line, rising, later_lines, lines_of, verdict, keeping, kept_after, verdicts_after, Remark, remarks_from, places_of}
use Rattle.buffer.proofs.Over.{over_length}
use Rattle.orders.proofs.Keys.{lexical_over}
use Rattle.spell.specs.Order.{text_keys}

-- ---- The lines rise

pub rise : (n : ℕ) (met : List ℕ) → let lines = map (λ (r : Remark). r.line) (remarks_from n met) in (rising lines ≡ true) × ((k : ℕ) → k < n → rising (k ∷ lines) ≡ true)
unfolding remarks_from rising
rise n [] = (refl, λ k h. refl)
rise n (v ∷ met) = let later = rise (suc n) met in
    by_cases (λ (l : List Remark). (rising (map (λ r. r.line) l) ≡ true) × ((k : ℕ) → k < n → rising (k ∷ map (λ r. r.line) l) ≡ true)) (eqb v 0)
    (λ _. (later.0, λ k h. later.1 k (omega arith)))
    (λ _. (later.1 n (omega arith), λ k h. rw (lt-ltb k n h) (later.1 n (omega arith))))

-- ---- As many as there are lines that are not kept

pub places_length : (l : List Remark) → length (places_of l) ≡ 2 * length l
unfolding places_of
places_length [] = refl
places_length (r ∷ l) = let h = places_length l in omega arith

-- one spell more is kept, where the line meets nothing
keeping_length : (kept : List Spell) (f : Found Spell) → length (keeping kept f) ≡ cond (eqb (verdict kept f) 0) 1 0 + length kept
unfolding keeping verdict
keeping_length kept unreadable = omega arith
keeping_length kept (found s rest) = by_test (eqb (verdict kept (found s rest)) 0) (λ e. rw e (length-append kept (s ∷ []) ∙ omega arith)) (λ e. rw e (omega arith))

pub all_lines : (n : ℕ) (kept : List Spell) (lines : List (List ℕ)) → length (kept_after kept lines) + length (remarks_from n (verdicts_after kept lines)) ≡ length kept + length lines
unfolding kept_after verdicts_after remarks_from
all_lines n kept [] = refl
all_lines n kept (t ∷ lines) =
    let h = all_lines (suc n) (keeping kept (read_line t)) lines in
    let k = keeping_length kept (read_line t) in
    by_test (eqb (verdict kept (read_line t)) 0) (λ e. rw e (omega (arith, rw e at k))) (λ e. rw e (omega (arith, rw e at k)))

pub verdicts_length : (kept : List Spell) (lines : List (List ℕ)) → length (verdicts_after kept lines) ≡ length lines
unfolding verdicts_after
verdicts_length kept [] = refl
verdicts_length kept (t ∷ lines) = ap suc (verdicts_length (keeping kept (read_line t)) lines)

-- at most as many lines as bytes
pub few : (t : List ℕ) → (length (later_lines t) ≤ length t) × (length (lines_of t) ≤ length t)
unfolding lines_of later_lines
few [] = omega arith
few (b ∷ t) = let h = few t in by_test (eqb b 10) (λ e. rw e (omega arith)) (λ e. rw e (omega arith))

-- ---- The least of the spells that followed is before s where any of them is

-- m stands for the spells of a list: it is before a spell where one of them is
abbrev pub Least : Spell → List Spell → Type 0
Least m l = (s : Spell) → some_before s l ≡ earlier_of m s

-- one more: the earlier one of it and m
pub least_more : (b : Bool) (m x : Spell) (l : List Spell) → earlier_of m x ≡ b → Least m l → Least (cond b m x) (x ∷ l)
unfolding some_before
least_more true m x l e h s = rw (h s) (by_test (earlier_of x s) (λ f. rw f (sym (text_order.trans m x s e f))) (λ f. rw f))
least_more false m x l e h s = rw (h s) (by_test (earlier_of x s) (λ f. rw f)
    (λ f. rw f (untrue (earlier_of m s) (λ g. unfold earlier_of in clash g (lexical_over text_keys s x m f e)))))

-- ---- None, exactly where the spells stood in the order

before_none : (x : Spell) (l : List Spell) → stands l x.number ≡ false → (some_before x l ≡ false) ↔ Each (λ z. earlier_of x z ≡ true) l
unfolding some_before stands Each
before_none x [] d = (λ _. tt, λ _. refl)
before_none x (y ∷ l) d =
    let p = neither (eqb y.number x.number) (stands l x.number) d in
    let later = before_none x l p.1 in (
      λ h. let q = neither (earlier_of y x) (some_before x l) h in (text_order.total y x (eqb-false y.number x.number p.0) q.0, later.0 q.1),
      λ e. rw (asym text_order x y e.0) (later.1 e.1),
    )

pub displaced_none : (l : List Spell) → distinct l ≡ true → (displaced_in l ≡ 0) ↔ (ordered l ≡ true)
unfolding displaced_in ordered_by
displaced_none [] d = (λ _. refl, λ _. refl)
displaced_none (x ∷ l) d =
    let p = alone x l d in
    let first = before_none x l p.0 in
    let later = displaced_none l p.1 in
    by_test (some_before x l)
    (λ e. rw e (λ h. absurd (omega arith), λ o. absurd (clash e (first.1 (ordered_first text_order x l o)))))
    (λ e. rw e (λ h. ordered_cons text_order x l (first.0 e) (later.0 (omega arith)), λ o. omega (arith, later.1 (ordered_tail text_order x l o))))

-- ---- A list into whose first places a text is put: as long as before, and one place more; and what is left of the first places of a list

pub put_sized : (t out : List ℕ) {out' : List ℕ} → length t ≤ length out → out' ≡ over t out → length out' ≡ length out
put_sized t out h e = ap length e ∙ over_length t out h

pub put_more : {A : Type 0} (done l : List A) (k : ℕ) (v : A) → length done ≡ k → k < length l → set (done ++ drop k l) k v ≡ (done ++ (v ∷ [])) ++ drop (k + 1) l
put_more done l k v h i = rw (add-one k, drop-cons l k v i, append_snoc) (set_at done _ (drop (suc k) l) v k h)

pub taken_from : {A : Type 0} (l : List A) (n i : ℕ) (d : A) → i < length (take n l) → drop i (take n l) ≡ get_or l i d ∷ drop (suc i) (take n l)
taken_from l n i d h = drop-cons (take n l) i d h ∙ rw (get_or-take n l i d (omega (arith, length-take n l, min-le_left n (length l))))
