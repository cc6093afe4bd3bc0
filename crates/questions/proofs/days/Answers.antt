-- `questions::days` meets its contract: the rows' question answers as the account does. Assumes nothing.
use Rattle.questions.proofs.{Names.{◌∙◌, ◌≡◌, refl, ℕ, List, [], ◌∷◌, true, List·getD-map, get_or, lt-ltb, both, by_test, is_day, days_ok, dated, Spell, blank, Told, Gave, rising_from, meets, contains_any, days_of, days_in, Days, on_any, rising, firsts_of, lasts_of, settle, ask, Agree, Outcome, found_of, published_built, Asked}, Asking.{several_told, rows_asked}}
use Rattle.questions.proofs.days.Goals as goal

-- the test of several days by the columns is the test of the spells
meets_any : (ds : List ℕ) (s : Spell) → meets ds s.first s.last ≡ on_any ds s
unfolding meets on_any
meets_any [] s = refl
meets_any (d ∷ ds) s = rw (meets_any ds s)

days_agree : (ds : List ℕ) (p : List Spell) → Agree (contains_any (firsts_of p) (lasts_of p) ds) (on_any ds) p
days_agree ds p k _ = rw (List·getD-map (λ s. s.first) p k blank, List·getD-map (λ s. s.last) p k blank) (meets_any ds (get_or p k blank))

-- days on the calendar rise by the columns' check where they do by the account's
rising_from_lem : (d : ℕ) (ds : List ℕ) → rising_from d ds ≡ rising (d ∷ ds)
unfolding rising_from rising
rising_from_lem d [] = refl
rising_from_lem d (e ∷ ds) = rw (rising_from_lem e ds)

rising_days : (ds : List ℕ) → days_ok ds ≡ true → rising_from 0 ds ≡ rising ds
unfolding rising_from days_ok
rising_days [] h = unfold rising in refl
rising_days (d ∷ ds) h = rw (lt-ltb 0 d (dated d (both (is_day d) (days_ok ds) h).0).0, rising_from_lem d ds)

days_asked : {ix ds ns ns' : List ℕ} {l : Told} {o : Outcome} → o ≡ found_of l → Gave l ns' (days_in ix ds ns) → Asked ix Days ds ns o ns'
days_asked = unfold days_of ask settle in rows_asked (λ ds ns fs ls. days_of ns fs ls ds) (λ m q _. by_test (days_ok q.days)
    (λ e. rw (e, days_of) (by_test (rising q.days)
    (λ f. rw (rising_days q.days e ∙ f, days_of, f) (several_told m q (on_any q.days) _ 0 (days_agree q.days m.published)))
    (λ f. rw (rising_days q.days e ∙ f, days_of, f))))
    (λ e. rw (e, days_of)))

pub returns : goal.returns
returns c = search days_asked

pub days-requires : goal.days-requires
days-requires c = search published_built
