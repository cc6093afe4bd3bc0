-- `questions::day` meets its contract: the rows' question answers as the account does. Assumes nothing.
use Rattle.questions.proofs.{Names.{◌≡◌, ℕ, List, by_test, is_day, Told, Gave, day_of, day_in, Day, settle, ask, Outcome, found_of, published_built, Asked}, Asking.{question_told, rows_asked}}
use Rattle.questions.proofs.day.Goals as goal

day_asked : {ix ds ns ns' : List ℕ} {l : Told} {o : Outcome} {d : ℕ} → o ≡ found_of l → Gave l ns' (day_in ix d ns) → Asked ix (Day d) ds ns o ns'
day_asked {d = d} = unfold day_of ask settle in rows_asked (λ _ ns fs ls. day_of ns fs ls d) (λ m q _. by_test (is_day d) (λ e. rw (e, day_of) (question_told m q d d)) (λ e. rw (e, day_of)))

pub returns : goal.returns
returns c = search day_asked

pub day-requires : goal.day-requires
day-requires c = search published_built
