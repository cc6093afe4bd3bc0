-- The questions, each in one place: what an accepted one lists, and what its line in document 01 says of a spell that is listed. Assumes nothing.
use Rattle.basis.proofs.Prelude.{◌≡◌, refl, ◌≤◌, ℕ, List, List-as-Memᴰ, ◌++◌, Bool, true, ◌↔◌, ⊎_elim, drop, length, arith, ◌∙◌, ap, sym, List·Memᴰ·cases-cons, List·Memᴰ·head, List·Memᴰ·not-nil, List·Memᴰ·tail, [], ◌∷◌, map, ◌&&◌, false, false≢true, leb, length-map, le-leb, leb-true, both, either, by_cases, by_test}
use Rattle.model.proofs.{Names.{accepted, off_calendar, reversed, is_day, Spell, listed_before, ordered_by, distinct, ticks, Ask, on_day, on_span, covers, on_any, filter, listed, comparisons_of, Effect, gives, settle, several, ask, effect_of, step_of, Question, reaches, State, After, Request, Answer}, Effects.{checked, cover_does, several_does}, Claims.{listed_exactly, listed_ordered}, Filter.filter_distinct, Edits.one_spell}
use Rattle.model.specs.declared.Question.TheVariants.{Day, Span, Cover, Days, Mask}

-- ---- The answer of a question

module _ (m : State) (q : Request) where
  -- a's first places are the numbers of the published spells that pass t, its later places as before; its looks are c, and n days are ticked
  pub record Lists (t : Spell → Bool) (c n : ℕ) (a : Answer) : Type 0 where
    pub count : a.count ≡ length (listed t m.published)
    pub numbers : a.numbers ≡ listed t m.published ++ drop a.count q.numbers
    pub comparisons : a.comparisons ≡ c
    pub ticked : a.ticked ≡ n
    pub text : a.text ≡ q.text

  -- P holds of the answer of an effect that is accepted
  abbrev Accepted : (Answer → Type 0) → Effect → Type 0
  Accepted P e = (settle e m q).answer.refusal ≡ accepted → P (settle e m q).answer

  lists : (t : Spell → Bool) (c n : ℕ) → Accepted (Lists t c n) (gives (listed t m.published) c n)
  lists t c n = unfold settle in by_cases (λ (x : After). x.answer.refusal ≡ accepted → Lists t c n x.answer)
      (leb (length (listed t m.published)) (length q.numbers)) (λ _ _. search) (λ _ r. absurd (omega arith))

  -- AN ACCEPTED DAY lists the spells with first ≤ d ≤ last, its looks by the formula
  pub day_lists : (d : ℕ) → (step_of (Ask (Day d)) m q).answer.refusal ≡ accepted
      → Lists (on_day d) (comparisons_of d d m.published) 0 (step_of (Ask (Day d)) m q).answer
  day_lists d = unfold effect_of ask settle in
      checked (Accepted (Lists (on_day d) _ 0)) (λ n bad r. absurd (bad r)) (is_day d) off_calendar (omega arith) (lists _ _ 0)

  -- AN ACCEPTED SPAN lists the spells with first ≤ b and last ≥ a, its looks by the formula
  pub span_lists : (a b : ℕ) → (step_of (Ask (Span a b)) m q).answer.refusal ≡ accepted
      → Lists (on_span a b) (comparisons_of b a m.published) 0 (step_of (Ask (Span a b)) m q).answer
  span_lists a b = unfold effect_of ask settle in
      let behind = checked (Accepted (Lists (on_span a b) (comparisons_of b a m.published) 0)) (λ n bad r. absurd (bad r)) in
      behind (is_day a && is_day b) off_calendar _ (omega arith) (behind (leb a b) reversed _ (omega arith) (lists _ _ 0))

  -- the cover of a published spell x with the number k
  abbrev pub Covers : ℕ → Answer → Type 0
  Covers k a =
      (x : Spell) × List-as-Memᴰ x m.published × (x.number ≡ k) × Lists (covers x) (comparisons_of x.first x.last m.published) 0 a

  -- AN ACCEPTED COVER lists the spells with first ≤ the first and last ≥ the last of a published spell of that number
  pub cover_lists : (k : ℕ) → (step_of (Ask (Cover k)) m q).answer.refusal ≡ accepted → Covers k (step_of (Ask (Cover k)) m q).answer
  cover_lists k = unfold effect_of ask settle in cover_does (Accepted (Covers k)) m.published k m.published
      (λ _ r. absurd (omega arith)) (λ x i e r. (x, i, e, lists (covers x) _ 0 r))

  several_lists : (ds : List ℕ) (n : ℕ) → Accepted (Lists (on_any ds) 0 n) (several ds n m.published)
  several_lists ds n = unfold settle in several_does (Accepted (Lists (on_any ds) 0 n)) (λ k bad r. absurd (bad r)) _ ds n (lists _ 0 n)

  -- ACCEPTED DAYS list the spells that contain at least one of them, and report no looks
  pub days_lists : (step_of (Ask Days) m q).answer.refusal ≡ accepted → Lists (on_any q.days) 0 0 (step_of (Ask Days) m q).answer
  days_lists = unfold effect_of ask in several_lists q.days 0

  -- AN ACCEPTED MASK lists the spells that contain at least one of the ticked days, and tells how many are ticked
  pub mask_lists : (b k : ℕ) → (step_of (Ask (Mask b k)) m q).answer.refusal ≡ accepted
      → Lists (on_any (ticks b k)) 0 (length (ticks b k)) (step_of (Ask (Mask b k)) m q).answer
  mask_lists b k = unfold effect_of ask in several_lists (ticks b k) (length (ticks b k))

-- ---- What fits a question

-- the spell x contains at least one of the days
abbrev pub Contains : List ℕ → Spell → Type 0
Contains ds x = (d : ℕ) × List-as-Memᴰ d ds × (x.first ≤ d) × (d ≤ x.last)

-- what the line of a question says of the spell x; ds are the days of a days question, p is the published list
abbrev pub Fits : Question → List ℕ → List Spell → Spell → Type 0
Fits (Day d) ds p x = (x.first ≤ d) × (d ≤ x.last)
Fits (Span a b) ds p x = (x.first ≤ b) × (a ≤ x.last)
Fits (Cover k) ds p x = (y : Spell) × List-as-Memᴰ y p × (y.number ≡ k) × (x.first ≤ y.first) × (y.last ≤ x.last)
Fits Days ds p x = Contains ds x
Fits (Mask b k) ds p x = Contains (ticks b k) x

-- the answer a is the numbers of the spells that fit, each once, in the order, in the first places of the lent list, with their count;
-- later places keep what they held
pub record Answered (m : State) (q : Request) (w : Question) (a : Answer) : Type 0 where
  pub spells : List Spell
  pub exactly : (x : Spell) → List-as-Memᴰ x spells ↔ (List-as-Memᴰ x m.published × Fits w q.days m.published x)
  pub once : distinct spells ≡ true
  pub in_order : ordered_by listed_before spells ≡ true
  pub count : a.count ≡ length spells
  pub numbers : a.numbers ≡ map (λ (s : Spell). s.number) spells ++ drop a.count q.numbers

reaching : (h l : ℕ) (x : Spell) → (reaches h l x ≡ true) ↔ ((x.first ≤ h) × (l ≤ x.last))
reaching h l x = (λ e. let p = both (leb x.first h) (leb l x.last) e in search leb-true, λ f. search le-leb)

on_days : (ds : List ℕ) (x : Spell) → (on_any ds x ≡ true) ↔ Contains ds x
unfolding on_any
on_days [] x = (λ e. absurd (false≢true e), λ f. absurd (List·Memᴰ·not-nil f.1))
on_days (d ∷ ds) x =
    let on = on_days ds x in (
      λ e. ⊎_elim (λ f. let r = (reaching d d x).0 f in (d, List·Memᴰ·head refl, r.0, r.1))
          (λ f. let r = on.0 f in (r.0, List·Memᴰ·tail r.1, r.2, r.3)) (either (on_day d x) (on_any ds x) e),
      λ f. ⊎_elim (λ s. rw ((reaching d d x).1 (rw s at f.2, rw s at f.3)))
          (λ i. by_test (on_day d x) (λ h. rw h) (λ h. rw h (on.1 (f.0, i, f.2, f.3)))) (List·Memᴰ·cases-cons f.1),
    )

module _ (m : State) (unique : distinct m.published ≡ true) (sorted : ordered_by listed_before m.published ≡ true) (q : Request) where
  answered : (w : Question) (t : Spell → Bool) {c n : ℕ} {a : Answer} → ((x : Spell) → (t x ≡ true) ↔ Fits w q.days m.published x)
      → Lists m q t c n a → Answered m q w a
  answered w t is l =
      let exactly : (x : Spell) → _ = λ x. simp is at (listed_exactly t m.published x) in
      let count = l.count ∙ length-map (filter t m.published) (λ (s : Spell). s.number) in
      search (filter_distinct t m.published unique, listed_ordered t m.published sorted)

  pub answers : (w : Question) → (step_of (Ask w) m q).answer.refusal ≡ accepted → Answered m q w (step_of (Ask w) m q).answer
  answers (Day d) r = answered (Day d) (on_day d) (reaching d d) (day_lists m q d r)
  answers (Span a b) r = answered (Span a b) (on_span a b) (reaching b a) (span_lists m q a b r)
  answers (Cover k) r =
      let (y, there, number, lists) = cover_lists m q k r in let on = reaching y.first y.last in
      answered (Cover k) (covers y) (λ x. (
        λ e. let s = (on x).0 e in (y, there, number, s.0, s.1),
        λ f.
            let same = one_spell f.0 y m.published unique f.1 there (f.2 ∙ sym number) in
            (on x).1 (rw same at f.3, rw same at f.4),
      )) lists
  answers Days r = answered Days (on_any q.days) (on_days q.days) (days_lists m q r)
  answers (Mask b k) r = answered (Mask b k) (on_any (ticks b k)) (on_days (ticks b k)) (mask_lists m q b k r)
