-- From what the rows tell to the account's answer and a question's postcondition. Assumes nothing.
use Rattle.questions.proofs.Names.{◌∙◌, ◌≡◌, ℕ, List, map, Bool, true, get_or, length, length-map, Spell, distinct, Told, keep, numbers, firsts, lasts, Gave, give, question, Ask, Question, reaches, listed, firsts_of, lasts_of, comparisons_of, State, Request, gives, settle, reaching, ask, effect_of, Agree, rows_kept, fits_agree, Outcome, found_of, asking, told, give_told, numbers_of, shows_rows, Asked}
use Rattle.stabbing.specs.Answer as rows

-- a question that is known to be another is answered as that one, whatever days stand beside it where that one reads none
pub as_question : {ix ds ns ns' : List ℕ} {w w' : Question} {o : Outcome} → w ≡ w' → Asked ix w' ds ns o ns' → Asked ix w ds ns o ns'
as_question e a = rw e a

pub as_any_days : {ix ds ns ns' : List ℕ} {w v : Question} {o : Outcome} → w ≡ v → ((es : List ℕ) → Asked ix v es ns o ns') → Asked ix w ds ns o ns'
as_any_days {ds = ds} e a = rw e (a ds)

-- ---- Of the rows of a published list the columns' questions tell what the account answers

module _ (m : State) (q : Request) where
  -- what the rows that pass a test are told as
  pub several_told : (t : Spell → Bool) (u : ℕ → Bool) (c : ℕ) → Agree u t m.published
      → told (give (map (λ k. get_or (numbers_of m.published) k 0) (keep u (length (firsts_of m.published)))) c q.numbers) q.text
      ≡ (settle (gives (listed t m.published) c 0) m q).answer
  several_told t u c same =
      rw (length-map m.published (λ (s : Spell). s.first), rows_kept (λ s. s.number) u t m.published same) (give_told m q _ c)

  -- those with first ≤ h and last ≥ l, with their looks
  pub question_told : (h l : ℕ)
      → told (question (numbers_of m.published) (firsts_of m.published) (lasts_of m.published) h l q.numbers) q.text
      ≡ (settle (reaching h l m.published) m q).answer
  question_told h l = unfold question comparisons_of in
      several_told (reaches h l) _ _ (fits_agree h l m.published) ∙ rw (length-map m.published (λ (s : Spell). s.first))

-- ---- What a question over the rows of an index gave is the question's answer

-- of f, by the days of a days question, the columns of numbers, first days and last days, and the lent list
pub rows_asked : {ix days ns ns' : List ℕ} {l : Told} {o : Outcome} {w : Question} (f : List ℕ → List ℕ → List ℕ → List ℕ → List ℕ → rows.Reported)
    → ((m : State) (q : Request) → distinct m.published ≡ true
    → told (f q.days (numbers_of m.published) (firsts_of m.published) (lasts_of m.published) q.numbers) q.text ≡ (settle (ask w q.days m.published) m q).answer)
    → o ≡ found_of l → Gave l ns' (f days (numbers ix) (firsts ix) (lasts ix) ns) → Asked ix w days ns o ns'
rows_asked {days = days} {ns = ns} {w = w} f tells is g = unfold effect_of in record {
  answer = λ m text s.
      let r = shows_rows s in rw (is, g.result, g.out, r.0, r.1, r.2) (tells m (asking (Ask w) days ns text) s.good.unique);
}
