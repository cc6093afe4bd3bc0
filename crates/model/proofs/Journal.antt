-- Why a journal of the accepted changes and of the readings suffices. Assumes nothing.
use Rattle.basis.proofs.Prelude.{◌≡◌, ap, refl, sym, List, [], ◌∷◌, false, false≢true, true≢false, eqb, eqb-false, by_cases, by_test}
use Rattle.model.proofs.{Names.{accepted, After, step, reads, Event, call, Told, told, left, all_told, kept, journal, journal_told, State}, Claims.{refused_keeps, reads_keep}}
use Rattle.model.specs.Journal.{reading, next}

-- WHAT IS LEFT OUT changes nothing: a question, a writing, a refused call
pub left_out : (m : State) (e : Event) → kept m e ≡ false → next m e ≡ m
left_out m (reading g) h = absurd (false≢true (sym h))
left_out m (call q) h = by_test (reads q.call) (reads_keep m q) (λ r. by_test (eqb (step m q).answer.refusal accepted)
    (λ a. absurd (true≢false (rw (r, a) at h)))
    (λ a. ap (λ (x : After). x.state) (refused_keeps m q (eqb-false (step m q).answer.refusal accepted a))))

-- THE STATE after any events is the state after those of the journal alone, in their order
pub journal_left : (m : State) (es : List Event) → left m (journal m es) ≡ left m es
unfolding left journal
journal_left m [] = refl
journal_left m (e ∷ es) = by_cases (λ (j : List Event). left m j ≡ left (next m e) es) (kept m e)
    (λ _. journal_left (next m e) es) (λ h. rw (left_out m e h) (journal_left m es))

-- SO IS EVERY LATER ANSWER: events after them are told the same
pub journal_later : (m : State) (es later : List Event) → all_told (left m (journal m es)) later ≡ all_told (left m es) later
journal_later m es later = ap (λ (x : State). all_told x later) (journal_left m es)

-- REPLAYED, the journal's events are told what they were told
pub journal_told_lem : (m : State) (es : List Event) → all_told m (journal m es) ≡ journal_told m es
unfolding all_told journal journal_told
journal_told_lem m [] = refl
journal_told_lem m (e ∷ es) = by_test (kept m e)
    (λ h. rw h (ap (λ (rest : List Told). told m e ∷ rest) (journal_told_lem (next m e) es))) (λ h. rw (h, left_out m e h) (journal_told_lem m es))
