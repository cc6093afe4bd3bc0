-- Every outcome with its lent lists is the account's answer. Assumes nothing.
use Rattle.basis.proofs.Prelude.{◌≡◌, refl, ℕ, List, leb, eqb, length, by_test}
use Rattle.refusal.specs.Table.{accepted}
use Rattle.register.specs.Answers.{Written, Writes}
use Rattle.stabbing.specs.Answer as rows
use Rattle.model.{specs.Effects.{State, Request, Answer, refused, gives, writes, settle}, proofs.Claims.ticking}
use Rattle.outcomes.specs.{declared.Outcome.Outcome, Outcomes.{told_of, found_of, wrote_of, ticking_of, answer_of}}

-- what a question over the rows found, beside a list lent for a text
abbrev pub told : rows.Reported → List ℕ → Answer
told o text = answer_of (found_of o.result) o.out text

module _ (m : State) (q : Request) where
  -- A REFUSAL, and no more; where the number is 0, an acceptance
  pub refused_told : (n : ℕ) → answer_of (told_of n) q.numbers q.text ≡ (settle (refused n) m q).answer
  refused_told n = unfold settle in refl

  -- SPELL NUMBERS with their looks, or 11
  pub give_told : (ns : List ℕ) (c : ℕ) → told (rows.give ns c q.numbers) q.text ≡ (settle (gives ns c 0) m q).answer
  give_told ns c = unfold rows.give settle in by_test (leb (length ns) (length q.numbers)) (λ e. rw (e, rows.give)) (λ e. rw (e, rows.give))

  -- A TEXT, or 11
  pub write_told : (t : List ℕ) {w : Written} {exit : List ℕ} → Writes t q.text w exit → answer_of (wrote_of w) q.numbers exit ≡ (settle (writes t) m q).answer
  write_told t d = unfold settle in rw (d.answer, d.places) (by_test (leb (length t) (length q.text)) (λ e. rw e) (λ e. rw e))

-- THE DAYS TICKED, where it is accepted
pub ticking_told : (o : Outcome) (n : ℕ) (numbers text : List ℕ) → answer_of (ticking_of o n) numbers text ≡ ticking n (answer_of o numbers text)
ticking_told o n numbers text = by_test (eqb o.refusal accepted) (λ e. rw e) (λ e. rw e)
