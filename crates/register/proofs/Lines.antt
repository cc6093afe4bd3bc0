-- A line is read as it was written, and what is read is what is written. Assumes nothing.
use Rattle.register.proofs.Names.{Found, Grade, HeldUrgency, List, Reading, Sound, Spell, Urgency, [], ◌∙◌, ◌∷◌, ◌≡◌, arith, binary32, bits_read, both, by_test, ended_back, entered, eqb, eqb-true, false, found, is_nan, leb, leb-true, line_text, never, not, number_read, of_bits, of_bits-fits, of_bits-to_bits, onward, passed, read_bits, read_letter, read_line, read_number, read_urgency, read_value, refl, refusal_of, to_bits, to_bits-of_bits, true, unreadable, urgency_ok, urgency_text, write_bits, write_number, ℕ}

-- ---- what is written is read
read_urgency_lem : (u : Urgency) (rest : List ℕ) → HeldUrgency u → urgency_ok u ≡ true → read_urgency (urgency_text u rest) ≡ found u rest
unfolding read_urgency read_letter read_value passed
read_urgency_lem (Grade g) rest h e = let small = leb-true g 4 (both (leb 1 g) (leb g 4) e).1 in rw (number_read 10 g rest (omega arith) (omega arith))
read_urgency_lem (Reading x) rest h e =
    let small = leb-true (to_bits binary32 x) 0x447A_0000 (both (not (is_nan x)) (leb (to_bits binary32 x) 0x447A_0000) e).1 in
    rw (bits_read 10 (to_bits binary32 x) rest (omega arith), of_bits-to_bits binary32 x h)

pub read_line_lem : (s : Spell) (rest : List ℕ) → Sound s → read_line (line_text s rest) ≡ found s rest
unfolding read_line line_text
read_line_lem s rest g =
    let e = entered s g.entered in
    rw (
      number_read 9 s.number _ (omega arith) g.numbered,
      number_read 9 s.candidate _ (omega arith) g.named,
      number_read 9 s.first _ (omega arith) (omega arith),
      number_read 9 s.last _ (omega arith) (omega arith),
      read_urgency_lem s.urgency rest g.held e.urgent,
    )

-- ---- what is read is what is written
pub record Step {A B : Type 0} (r : Found A) (f : A → List ℕ → Found B) (b : B) (t : List ℕ) : Type 0 where
  pub value : A
  pub after : List ℕ
  pub read : r ≡ found value after
  pub on : f value after ≡ found b t

pub step : {A B : Type 0} (r : Found A) (f : A → List ℕ → Found B) (b : B) (t : List ℕ) → onward r f ≡ found b t → Step r f b t
step (found a rest) f b t e = record { value = a; after = rest; read = refl; on = e }
step unreadable f b t e = absurd (never e)

-- by a field that is read, whatever its value
by_step : {A B C : Type 0} (r : Found A) (f : A → List ℕ → Found B) {b : B} {t : List ℕ} → onward r f ≡ found b t
    → ((a : A) (rest : List ℕ) → r ≡ found a rest → f a rest ≡ found b t → C) → C
by_step r f {b} {t} e k = let s = step r f b t e in k s.value s.after s.read s.on

pub write_letter : (s : List ℕ) (l : ℕ) (rest : List ℕ) → read_letter s ≡ found l rest → (s ≡ l ∷ 9 ∷ rest) × ((eqb l 71 ≡ false) → l ≡ 67)
unfolding read_letter
write_letter [] l rest e = absurd (never e)
write_letter (b ∷ s) l rest e =
    by_test (eqb b 71)
    (λ g. let p = ended_back 9 (found b s) l rest (rw g at e) in (cc, λ n. cc))
    (λ g. by_test (eqb b 67)
    (λ k. let p = ended_back 9 (found b s) l rest (rw (g, k) at e) in (cc, λ n. cc (eqb-true b 67 k)))
    (λ k. absurd (never (rw (g, k) at e))))

write_value : (l : ℕ) (s : List ℕ) (u : Urgency) (rest : List ℕ) → ((eqb l 71 ≡ false) → l ≡ 67) → read_value l s ≡ found u rest → urgency_ok u ≡ true
    → HeldUrgency u × (l ∷ 9 ∷ s ≡ urgency_text u rest)
unfolding read_value
write_value l s u rest c e ok =
    by_test (eqb l 71)
    (λ g. by_step (read_number 10 s) (λ g. found (Grade g)) (rw g at e) (λ n t r on.
    let is : Grade n ≡ u = cc in
    rw (← is) (tt, cc ((write_number 10 s n t r).1, eqb-true l 71 g))))
    (λ g. by_step (read_bits 10 s) (λ n. found (Reading (of_bits binary32 n))) (rw g at e) (λ n t r on.
    let is : Reading (of_bits binary32 n) ≡ u = cc in
    let w = write_bits 10 s n t r in
    let number = (both (not (is_nan (of_bits binary32 n))) (leb (to_bits binary32 (of_bits binary32 n)) 0x447A_0000) (rw (← is) at ok)).0 in
    rw (← is) (of_bits-fits binary32 n, rw (to_bits-of_bits binary32 n (omega arith) (rw number tt)) (cc (c g)))))

write_urgency : (s : List ℕ) (u : Urgency) (rest : List ℕ) → read_urgency s ≡ found u rest → urgency_ok u ≡ true → HeldUrgency u × (s ≡ urgency_text u rest)
write_urgency s u rest e ok = unfold read_urgency in by_step (read_letter s) read_value e (λ letter t r on.
    let l = write_letter s letter t r in
    let v = write_value letter t u rest l.1 on ok in
    (v.0, l.0 ∙ v.1))

pub write_line : (s : List ℕ) (x : Spell) (rest : List ℕ) → read_line s ≡ found x rest → refusal_of x ≡ 0 → Sound x × (s ≡ line_text x rest)
unfolding read_line line_text
write_line s x rest e ok =
    by_step (read_number 9 s) _ e (λ n s1 r1 e1.
    by_step (read_number 9 s1) _ e1 (λ c s2 r2 e2.
    by_step (read_number 9 s2) _ e2 (λ f s3 r3 e3.
    by_step (read_number 9 s3) _ e3 (λ l s4 r4 e4.
    by_step (read_urgency s4) _ e4 (λ u t r5 e5.
    let is : record { number = n; candidate = c; first = f; last = l; urgency = u } ≡ x = cc in
    let passes = rw (← is) at ok in
    let w1 = write_number 9 s n s1 r1 in
    let w2 = write_number 9 s1 c s2 r2 in
    let w5 = write_urgency s4 u t r5 (rw (← is) at (entered x ok).urgent) in
    rw (← is) (search, cc ((write_number 9 s2 f s3 r3).1, (write_number 9 s3 l s4 r4).1, w5.1)))))))
