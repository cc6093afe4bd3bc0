-- `questions::span` meets its contract: the rows' question answers as the account does. Assumes nothing.
use Rattle.questions.proofs.{Names.{◌≡◌, ℕ, List, ◌&&◌, leb, by_test, is_day, Told, Gave, span_of, span_in, Span, settle, ask, Outcome, found_of, published_built, Asked}, Asking.{question_told, rows_asked}}
use Rattle.questions.proofs.span.Goals as goal

span_asked : {ix ds ns ns' : List ℕ} {l : Told} {o : Outcome} {a b : ℕ} → o ≡ found_of l → Gave l ns' (span_in ix a b ns) → Asked ix (Span a b) ds ns o ns'
span_asked {a = a} {b = b} = unfold span_of ask settle in rows_asked (λ _ ns fs ls. span_of ns fs ls a b) (λ m q _. by_test (is_day a && is_day b)
    (λ e. rw (e, span_of) (by_test (leb a b) (λ f. rw (f, span_of) (question_told m q b a)) (λ f. rw (f, span_of))))
    (λ e. rw (e, span_of)))

pub returns : goal.returns
returns c = search span_asked

pub span-requires : goal.span-requires
span-requires c = search published_built
