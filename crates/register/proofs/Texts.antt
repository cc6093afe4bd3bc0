-- A text is read as it was written, and what is read is what is written. Assumes nothing.
use Rattle.register.proofs.{Lines.{read_line_lem, write_line}, Names.{Each, Good, List, Register, Sound, Spell, [], ◌++◌, ◌+◌, ◌<◌, ◌∙◌, ◌∷◌, ◌≡◌, ◌≤◌, ap, append-nil, append_snoc, arith, bad, by_found, by_test, distinct, distinct_fresh, distinct_more, eq-eqb, eqb, eqb-false, eqb-true, false, follows, found, good, leb, length, length-append, line_answer, line_refusal, line_text, never, next_line, ordered, ordered_by, read_decimal, read_line, read_lines, read_text, refl, refusal_of, stands, suc, sym, text_onto, true, unreadable, write_all, zero, ℕ}, Ordered.{ordered_follows, ordered_more}, Widths.sound_width}

-- ---- what the lines give, by what comes next
-- after a line that passes, where `room` more may stand
abbrev pub after : ℕ → List Spell → Spell → List ℕ → Register
after zero before s rest = bad 8 (length before + 1)
after (suc room) before s rest = read_lines room (before ++ (s ∷ [])) rest

lines_by : (room : ℕ) (before : List Spell) (t : List ℕ) → read_lines room before t ≡ next_line before t (after room before)
unfolding read_lines
lines_by zero before t = refl
lines_by (suc room) before t = refl

pub lines_end : (room : ℕ) (before : List Spell) → read_lines room before [] ≡ good before
lines_end room before = unfold next_line in lines_by room before []

pub lines_malformed : (room : ℕ) (before : List Spell) (t : List ℕ) → 0 < length t → read_line t ≡ unreadable → read_lines room before t ≡ bad 12 (length before + 1)
unfolding next_line line_answer
lines_malformed room before [] h e = absurd (omega arith)
lines_malformed room before (b ∷ t) h e = lines_by room before (b ∷ t) ∙ rw e

-- a line that is there
line_there : (room : ℕ) (before : List Spell) (t : List ℕ) (s : Spell) (rest : List ℕ) → read_line t ≡ found s rest
    → read_lines room before t ≡ line_answer before (found s rest) (after room before)
unfolding next_line
line_there room before [] s rest e = unfold read_line read_decimal in absurd (never e)
line_there room before (b ∷ t) s rest e = lines_by room before (b ∷ t) ∙ rw e

module _ (before : List Spell) (t : List ℕ) (s : Spell) (rest : List ℕ) (e : read_line t ≡ found s rest) (room : ℕ) where
  pub lines_refused : eqb (line_refusal before s) 0 ≡ false → read_lines room before t ≡ bad (line_refusal before s) (length before + 1)
  lines_refused h = unfold line_answer in line_there room before t s rest e ∙ rw h

  pub lines_on : line_refusal before s ≡ 0 → read_lines room before t ≡ after room before s rest
  lines_on h = unfold line_answer in line_there room before t s rest e ∙ rw (eq-eqb (line_refusal before s) 0 h)

-- ---- what is written is read
pub not_refused : (before : List Spell) (s : Spell) → refusal_of s ≡ 0 → stands before s.number ≡ false → follows before s ≡ true → line_refusal before s ≡ 0
not_refused before s e t f = unfold line_refusal in rw (e, t, f)

pub read_lines_lem : (m before : List Spell) (room : ℕ) → Each Sound m → ordered (before ++ m) ≡ true → distinct (before ++ m) ≡ true → length m ≤ room
    → read_lines room before (text_onto m []) ≡ good (before ++ m)
unfolding text_onto Each
read_lines_lem [] before room g o d h = lines_end room before ∙ ap good (sym (append-nil before))
read_lines_lem (x ∷ m) before zero g o d h = absurd (omega arith)
read_lines_lem (x ∷ m) before (suc room) g o d h =
    let on = not_refused before x g.0.entered (distinct_fresh before x m d) (ordered_follows before x m o) in
    let later = read_lines_lem m (before ++ (x ∷ [])) room g.1 (rw append_snoc o) (rw append_snoc d) (omega arith) in
    lines_on before _ x _ (read_line_lem x (text_onto m []) g.0) (suc room) on ∙ later ∙ ap good (append_snoc before x m)

pub written_width : (l : List Spell) → Good l → length (write_all l) ≤ 33792
written_width l g = omega (arith, sound_width l g.each, g.few)

-- ---- what is read is what is written
no_answer : {k n : ℕ} {l : List Spell} → bad k n ≡ good l → ⊥
no_answer h = let z : ◌≡◌ {A = ℕ} 0 1 = cc in omega arith

-- a line that passes
passed : (before : List Spell) (s : Spell) → line_refusal before s ≡ 0 → (refusal_of s ≡ 0) × (stands before s.number ≡ false) × (follows before s ≡ true)
unfolding line_refusal
passed before s e =
    by_test (eqb (refusal_of s) 0)
    (λ r. by_test (stands before s.number)
    (λ t. absurd (omega (arith, rw (r, t) at e)))
    (λ t. by_test (follows before s) (λ f. (eqb-true (refusal_of s) 0 r, t, f)) (λ f. absurd (omega (arith, rw (r, t, f) at e)))))
    (λ r. absurd (eqb-false (refusal_of s) 0 r (rw r at e)))

-- one spell more at the end of a list
text_more : (l : List Spell) (s : Spell) (rest : List ℕ) → text_onto (l ++ (s ∷ [])) rest ≡ text_onto l (line_text s rest)
unfolding text_onto
text_more [] s rest = refl
text_more (x ∷ l) s rest = ap (line_text x) (text_more l s rest)

sound_more : (l : List Spell) (s : Spell) → Each Sound l → Sound s → Each Sound (l ++ (s ∷ []))
unfolding Each
sound_more [] s g h = (h, tt)
sound_more (x ∷ l) s g h = (g.0, sound_more l s g.1 h)

-- where lines are accepted, there is none, or the first passes
line_first : {C : Type 0} (room : ℕ) (before : List Spell) (t : List ℕ) (l : List Spell) → read_lines room before t ≡ good l → (t ≡ [] → before ≡ l → C)
    → ((s : Spell) (rest : List ℕ) → read_line t ≡ found s rest → line_refusal before s ≡ 0 → after room before s rest ≡ good l → C) → C
line_first room before [] l e d k = let ends = lines_end room before in d refl (cc)
line_first room before (b ∷ t) l e d k = by_found (read_line (b ∷ t))
    (λ s rest r. by_test (eqb (line_refusal before s) 0)
    (λ h. let p = eqb-true (line_refusal before s) 0 h in k s rest r p (sym (lines_on before (b ∷ t) s rest r room p) ∙ e))
    (λ h. absurd (no_answer (sym (lines_refused before (b ∷ t) s rest r room h) ∙ e))))
    (λ r. absurd (no_answer (sym (lines_malformed room before (b ∷ t) (omega arith) r) ∙ e)))

write_lines : (room : ℕ) (before : List Spell) (t : List ℕ) (l : List Spell) → Good before → length before + room ≡ 1024 → read_lines room before t ≡ good l
    → (text_onto l [] ≡ text_onto before t) × Good l
write_lines zero before t l g n e = line_first zero before t l e (λ z same. rw (z, ← same) (refl, g)) (λ s rest r p a. absurd (no_answer a))
write_lines (suc room) before t l g n e = line_first (suc room) before t l e (λ z same. rw (z, ← same) (refl, g)) (λ s rest r p a.
    let q = passed before s p in
    let w = write_line t s rest r q.0 in
    let long = length-append before (s ∷ []) in
    let more : Good (before ++ (s ∷ [])) = search (sound_more before s g.each w.0, ordered_more, distinct_more, arith) in
    let on = write_lines room (before ++ (s ∷ [])) rest l more (omega arith) a in
    (on.0 ∙ text_more before s rest ∙ ap (text_onto before) (sym w.1), on.1))

-- every accepted text is its list's text, and its list is good
pub written_read : (t : List ℕ) (l : List Spell) → read_text t ≡ good l → (write_all l ≡ t) × Good l
unfolding read_text ordered_by distinct text_onto Each
written_read t l e = by_test (leb (length t) 65536) (λ h. write_lines 1024 [] t l (search arith) (omega arith) (rw h at e)) (λ h. absurd (no_answer (rw h at e)))
