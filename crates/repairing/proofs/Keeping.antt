-- The lines of a text, one by one; what is kept of any text can stand, and a good text is kept whole with nothing said. Assumes nothing.
use Rattle.basis.proofs.Prelude.{◌∙◌, ◌≡◌, ap, refl, sym, ◌+◌, ◌%◌, ◌/◌, ◌<◌, ◌≤◌, suc, zero, ℕ, List, [], ◌++◌, ◌∷◌, append-nil, append_snoc, false, true, eqb, ltb, length, length-append, le_trans, arith, eq-eqb, eqb-false, eqb-true, lt-ltb, ltb-true, ne_eqb, by_cases, by_test}
use lib.Ieee.{binary32, of_bits}
use Rattle.repairing.proofs.Names.{Grade, Reading, Spell, stands, distinct, Each, Sound, distinct_fresh, distinct_more, Found, found, unreadable, digits_of, decimal_of, hex_digit, hex_of, read_number, read_bits, read_letter, read_value, read_urgency, read_line, line_text, text_onto, step, read_line_lem, write_letter, write_line, later_lines, lines_of, after_line, verdict, keeping, kept_after, verdicts_after, remarks_from, kept_of}
use Rattle.spell.{specs.{declared.Urgency.Urgency, Entry.refusal_of}, proofs.Entered.{needed, past}}
use Rattle.fields.proofs.Widths.{decimal_wide}
use Rattle.decimals.proofs.Decimals.{write_number}
use Rattle.hexadecimals.proofs.Hex.{write_bits}

-- ---- The first line and the others

later_lines_lem : (t : List ℕ) → later_lines t ≡ lines_of (after_line t)
unfolding later_lines lines_of after_line
later_lines_lem [] = refl
later_lines_lem (b ∷ t) = by_test (eqb b 10) (λ e. rw e) (λ e. rw e (later_lines_lem t))

pub lines_first : (t : List ℕ) → 0 < length t → lines_of t ≡ t ∷ lines_of (after_line t)
unfolding lines_of
lines_first [] h = absurd (omega arith)
lines_first (b ∷ t) h = ap (λ (l : List (List ℕ)). (b ∷ t) ∷ l) (later_lines_lem (b ∷ t))

-- ---- A line that is read ends at its LF

pub byte_passed : (b : ℕ) (t : List ℕ) → (b ≡ 10 → ⊥) → after_line (b ∷ t) ≡ after_line t
byte_passed b t n = unfold after_line in rw (ne_eqb b 10 n)

digits_passed : (k n : ℕ) (t : List ℕ) → after_line (digits_of k n t) ≡ after_line t
unfolding digits_of
digits_passed zero n t = byte_passed (48 + n) t (λ e. omega arith)
digits_passed (suc k) n t = by_cases (λ (l : List ℕ). after_line l ≡ after_line t) (ltb n 10)
    (λ _. byte_passed (48 + n) t (λ e. omega arith))
    (λ _. digits_passed k (n / 10) ((48 + n % 10) ∷ t) ∙ byte_passed (48 + n % 10) t (λ e. omega arith))

hex_passed : (k n : ℕ) (t : List ℕ) → after_line (hex_of k n t) ≡ after_line t
unfolding hex_of
hex_passed zero n t = refl
hex_passed (suc k) n t = hex_passed k (n / 16) (hex_digit (n % 16) ∷ t) ∙ byte_passed (hex_digit (n % 16)) t (unfold hex_digit in
    by_cases (λ (b : ℕ). b ≡ 10 → ⊥) (ltb (n % 16) 10) (λ _ e. omega arith) (λ _ e. omega arith))

number_passed : (e n : ℕ) (s : List ℕ) {t : List ℕ} → read_number e s ≡ found n t → after_line s ≡ after_line (e ∷ t)
number_passed e n s {t} r = unfold decimal_of in ap after_line (write_number e s n t r).1 ∙ digits_passed 4 n (e ∷ t)

urgency_ends : (s : List ℕ) (u : Urgency) (rest : List ℕ) → read_urgency s ≡ found u rest → after_line s ≡ rest
urgency_ends s u rest e = unfold read_urgency read_value after_line in
    let l = step (read_letter s) read_value u rest e in
    let w = write_letter s l.value l.after l.read in
    by_test (eqb l.value 71)
    (λ g.
    let v = step (read_number 10 l.after) (λ g. found (Grade g)) u rest (rw g at l.on) in
    cc (byte_passed l.value (9 ∷ l.after) (λ z. omega (arith, eqb-true l.value 71 g)), number_passed 10 v.value l.after v.read))
    (λ g.
    let v = step (read_bits 10 l.after) (λ n. found (Reading (of_bits binary32 n))) u rest (rw g at l.on) in
    cc (byte_passed l.value (9 ∷ l.after) (λ z. omega (arith, w.1 g)), (write_bits 10 l.after v.value v.after v.read).1, hex_passed 8 v.value (10 ∷ v.after)))

pub line_ends : (t : List ℕ) (s : Spell) (rest : List ℕ) → read_line t ≡ found s rest → after_line t ≡ rest
line_ends t s rest e = unfold read_line after_line in
    let s1 = step (read_number 9 t) _ s rest e in
    let s2 = step (read_number 9 s1.after) _ s rest s1.on in
    let s3 = step (read_number 9 s2.after) _ s rest s2.on in
    let s4 = step (read_number 9 s3.after) _ s rest s3.on in
    let s5 = step (read_urgency s4.after) _ s rest s4.on in
    cc (number_passed 9 _ t s1.read, number_passed 9 _ _ s2.read, number_passed 9 _ _ s3.read, number_passed 9 _ _ s4.read, urgency_ends _ _ _ s5.read)

-- ---- A line that is kept

-- it passes 1 to 5, 6 and 8
pub record Passes (kept : List Spell) (s : Spell) : Type 0 where
  pub entered : refusal_of s ≡ 0
  pub new : stands kept s.number ≡ false
  pub room : length kept < 1024

pub verdict_none : (kept : List Spell) (s : Spell) (rest : List ℕ) → Passes kept s → verdict kept (found s rest) ≡ 0
verdict_none kept s rest p = unfold verdict in rw (eq-eqb (refusal_of s) 0 p.entered, p.new, lt-ltb (length kept) 1024 p.room)

pub passes : (kept : List Spell) (s : Spell) (rest : List ℕ) → verdict kept (found s rest) ≡ 0 → Passes kept s
passes kept s rest e = unfold verdict in by_test (eqb (refusal_of s) 0)
    (λ r.
    let p = past (stands kept s.number) 5 _ (rw r at e) in
    record { entered = eqb-true (refusal_of s) 0 r; new = p.0; room = ltb-true (length kept) 1024 (needed _ 7 0 p.1).0 })
    (λ r. absurd (eqb-false (refusal_of s) 0 r (rw r at e)))

pub keeps_it : (kept : List Spell) (s : Spell) (rest : List ℕ) → Passes kept s → keeping kept (found s rest) ≡ kept ++ (s ∷ [])
keeps_it kept s rest p = unfold keeping in rw (verdict_none kept s rest p)

-- a line that meets a number
pub drops_it : (kept : List Spell) (f : Found Spell) → (verdict kept f ≡ 0 → ⊥) → keeping kept f ≡ kept
unfolding keeping
drops_it kept unreadable z = refl
drops_it kept (found s rest) z = rw (ne_eqb (verdict kept (found s rest)) 0 z)

-- ---- What is kept can stand

pub record Kept (l : List Spell) : Type 0 where
  pub each : Each Sound l
  pub unique : distinct l ≡ true
  pub few : length l ≤ 1024

each_more : (l : List Spell) (s : Spell) → Each Sound l → Sound s → Each Sound (l ++ (s ∷ []))
unfolding Each
each_more [] s e p = (p, tt)
each_more (x ∷ l) s e p = (e.0, each_more l s e.1 p)

kept_line : (l : List Spell) (t : List ℕ) (f : Found Spell) → read_line t ≡ f → Kept l → Kept (keeping l f)
unfolding keeping
kept_line l t unreadable e k = k
kept_line l t (found s rest) e k = by_cases Kept (eqb (verdict l (found s rest)) 0)
    (λ v.
    let p = passes l s rest (eqb-true (verdict l (found s rest)) 0 v) in
    let n = length-append l (s ∷ []) in
    let sound = (write_line t s rest e p.entered).0 in
    search (each_more, distinct_more, arith))
    (λ v. k)

kept_after_lem : (l : List Spell) (lines : List (List ℕ)) → Kept l → Kept (kept_after l lines)
unfolding kept_after
kept_after_lem l [] k = k
kept_after_lem l (t ∷ lines) k = kept_after_lem (keeping l (read_line t)) lines (kept_line l t (read_line t) refl k)

pub kept_good : (t : List ℕ) → Kept (kept_of t)
kept_good t = unfold Each distinct in kept_after_lem [] (lines_of t) (record { each = tt; unique = refl; few = omega arith })

-- ---- A good text is kept whole

-- the lines of m, after what is kept of those before, are all kept, and nothing is said of them
pub whole : (m before : List Spell) → Each Sound m → distinct (before ++ m) ≡ true → length (before ++ m) ≤ 1024
    → (kept_after before (lines_of (text_onto m [])) ≡ before ++ m)
    × ((n : ℕ) → remarks_from n (verdicts_after before (lines_of (text_onto m []))) ≡ [])
unfolding text_onto Each kept_after verdicts_after remarks_from
whole [] before e d h = unfold lines_of later_lines in (sym (append-nil before), λ n. refl)
whole (x ∷ m) before e d h =
    let rest = text_onto m [] in
    let p : Passes before x = record { entered = e.0.entered; new = distinct_fresh before x m d; room = omega (arith, length-append before (x ∷ m)) } in
    let some : 0 < length (line_text x rest) = unfold line_text in le_trans (omega arith) (decimal_wide x.number _) in
    let read = read_line_lem x rest e.0 in
    let first : lines_of (line_text x rest) ≡ line_text x rest ∷ lines_of rest = rw (line_ends (line_text x rest) x rest read) at (lines_first (line_text x rest) some) in
    let later = whole m (before ++ (x ∷ [])) e.1 (rw append_snoc d) (rw append_snoc h) in
    let kept = keeps_it before x rest p in
    let none = verdict_none before x rest p in
    (cc (append_snoc before x m), λ n. cc (later.1 (suc n)))
