-- What the lists of a call hold beforehand shows in no answer: only their lengths do. Assumes nothing.
use Rattle.basis.proofs.Prelude.{◌≡◌, ap, refl, ℕ, leb, length, take, take-append_seam, by_test}
use Rattle.refusal.specs.Table.{accepted, short_buffer}
use Rattle.model.specs.{declared.Call.Call, Effects.{State, Request, Answer, After, Effect, refused, done, gives, writes, refuse, settle}}
use Rattle.replies.specs.{declared.Shape.{Shape, TheVariants.{Ok, Text, Listed, Several, Ticked}}, Replies.{written_text, listed_text, several_text, ticked_text, shape_of, shape_text, call_text}}

-- what is shown of an answer: of its lists as many places as it counts
abbrev shown : Answer → Answer
shown a = record {
  refusal = a.refusal;
  count = a.count;
  comparisons = a.comparisons;
  length = a.length;
  ticked = a.ticked;
  numbers = take a.count a.numbers;
  text = take a.length a.text;
}

-- two outcomes that no answer tells apart
pub record Same (x y : After) : Type 0 where
  pub state : x.state ≡ y.state
  pub answer : shown x.answer ≡ shown y.answer

-- ANY EFFECT: lent lists of the same lengths, it leaves the same state and shows the same answer
module _ (m : State) (q q' : Request) (en : length q.numbers ≡ length q'.numbers) (et : length q.text ≡ length q'.text) where
  same_refuse : (n : ℕ) (m' : State) → Same (refuse n m' q) (refuse n m' q')
  same_refuse n m' = record { state = refl; answer = refl }

  pub same_settle : (e : Effect) → Same (settle e m q) (settle e m q')
  unfolding settle
  same_settle (refused n) = same_refuse n m
  same_settle (done m') = same_refuse accepted m'
  same_settle (gives l k t) = rw en (by_test (leb (length l) (length q'.numbers))
      (λ e. rw e (record { state = refl; answer = simp take-append_seam })) (λ e. rw e (same_refuse short_buffer m)))
  same_settle (writes t) = rw et (by_test (leb (length t) (length q'.text))
      (λ e. rw e (record { state = refl; answer = simp take-append_seam })) (λ e. rw e (same_refuse short_buffer m)))

-- what is the same is answered by the same bytes
same_shape : (w : Shape) (x y : After) → Same x y → shape_text w x.answer ≡ shape_text w y.answer
unfolding shape_text
same_shape Ok x y e = refl
same_shape Text x y e = ap (λ (a : Answer). written_text a.length a.text) e.answer
same_shape Listed x y e = ap (λ (a : Answer). listed_text a.count a.comparisons a.numbers) e.answer
same_shape Several x y e = ap (λ (a : Answer). several_text a.count a.numbers) e.answer
same_shape Ticked x y e = ap (λ (a : Answer). ticked_text a.ticked a.count a.numbers) e.answer

pub same_call : (c : Call) (x y : After) → Same x y → call_text c x.answer ≡ call_text c y.answer
unfolding call_text
same_call c x y e = rw (same_shape (shape_of c) x y e, ap (λ (a : Answer). a.refusal) e.answer)
