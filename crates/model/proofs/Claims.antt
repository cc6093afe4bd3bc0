-- What is claimed of every state and every call of the account: what begins it, what take back, publish, writing and a mask do, and what
-- a call leaves as it is. The edits are in `Editing.antt`, the other questions in `Asked.antt`, whole lists of calls in `Runs.antt`.
-- Assumes nothing.
use Rattle.basis.proofs.Prelude.{◌≡◌, ap, refl, ◌*◌, ◌<◌, ◌≤◌, suc, ℕ, List, List-as-Memᴰ, [], ◌++◌, ◌∷◌, Bool, cond, false, true, ◌↔◌, ◌⊎◌, inl, inr, ⊎_elim, drop, eqb, get_or, leb, length, arith, le-leb, lt-leb, lt-ltb, by_test, clash}
use Rattle.model.proofs.{Names.{accepted, no_history, no_such_rule, off_calendar, short_buffer, is_rule, Spell, listed_before, ordered_by, answer_order, Register, read_text, write_all, good, bad, text_again, days_ok, ticks, rises, empty, Ask, Publish, TakeBack, Write, published_of, on_any, rising, filter, listed, with_standing, with_published, gives, writes, refuse, gave, wrote, settle, fresh, begun, take_back, ask, effect_of, step_of, step, reads, State, Request, Answer}, Effects.every, Filter.{filter_in, in_filter, filter_ordered}, Bridge.comparisons_le}
use Rattle.model.specs.declared.Question.TheVariants.{Days, Mask}
use Rattle.spell.proofs.Order.{comes_before, twins_rise}

-- ---- The beginning

-- A READING has an empty past and an empty published list, whatever the text
pub reading_begins : (g : Register) → ((begun g).past ≡ []) × ((begun g).published ≡ [])
unfolding begun
reading_begins (good l) = (refl, refl)
reading_begins (bad n line) = (refl, refl)

-- accepted, the text's spells stand, and it is their text
pub reading_stands : (text : List ℕ) (l : List Spell) → read_text text ≡ good l → ((begun (read_text text)).standing ≡ l) × (write_all l ≡ text)
reading_stands text l e = unfold begun in (rw e, (text_again text l e).0)

-- refused, it makes a fresh service
pub reading_refused : (text : List ℕ) (n line : ℕ) → read_text text ≡ bad n line → begun (read_text text) ≡ fresh
reading_refused text n line e = unfold begun in rw e

module _ (m : State) (q : Request) where
  -- ---- The short list

  -- NUMBERS THAT FIT the lent list are given, and others are refused with 11; so is a text
  pub fits_given : (ns : List ℕ) (looks ticked : ℕ) → length ns ≤ length q.numbers → settle (gives ns looks ticked) m q ≡ gave ns looks ticked m q
  fits_given ns looks ticked h = unfold settle in rw (le-leb (length ns) (length q.numbers) h)

  pub short_refused : (ns : List ℕ) (looks ticked : ℕ) → length q.numbers < length ns → settle (gives ns looks ticked) m q ≡ refuse short_buffer m q
  short_refused ns looks ticked h = unfold settle in rw (lt-leb (length ns) (length q.numbers) h)

  pub text_fits : (t : List ℕ) → length t ≤ length q.text → settle (writes t) m q ≡ wrote t m q
  text_fits t h = unfold settle in rw (le-leb (length t) (length q.text) h)

  pub text_short : (t : List ℕ) → length q.text < length t → settle (writes t) m q ≡ refuse short_buffer m q
  text_short t h = unfold settle in rw (lt-leb (length t) (length q.text) h)

  -- ---- Take back and publish

  -- TAKE BACK: the standing list becomes the front of the past, which loses it; the published list is as it was
  pub back_takes : (l : List Spell) (past : List (List Spell)) → m.past ≡ l ∷ past
      → step_of TakeBack m q ≡ refuse accepted (with_standing l past m) q
  back_takes l past e = unfold effect_of take_back settle in rw e

  -- with no past it is refused with 9
  pub back_refused : m.past ≡ [] → step_of TakeBack m q ≡ refuse no_history m q
  back_refused e = unfold effect_of take_back settle in rw e

  -- PUBLISH by a rule that there is leaves the standing list and the past as they are
  pub publish_keeps_past : (rule : ℕ) → is_rule rule ≡ true → step_of (Publish rule) m q ≡ refuse accepted (with_published (published_of rule m.standing) m) q
  publish_keeps_past rule e = unfold effect_of settle in rw e

  -- by any other it is refused with 14, its only check, and changes nothing
  pub publish_refused : (rule : ℕ) → is_rule rule ≡ false → step_of (Publish rule) m q ≡ refuse no_such_rule m q
  publish_refused rule e = unfold effect_of settle in rw e

  -- ---- Writing

  -- a's first places hold the text t, its later places as before; the list lent for numbers is as before
  pub record Writes (t : List ℕ) (a : Answer) : Type 0 where
    pub length : a.length ≡ length t
    pub text : a.text ≡ t ++ drop a.length q.text
    pub numbers : a.numbers ≡ q.numbers

  -- ACCEPTED WRITING gives the text of the standing list
  pub write_writes : (step_of Write m q).answer.refusal ≡ accepted → Writes (write_all m.standing) (step_of Write m q).answer
  write_writes = unfold effect_of settle in by_test (leb (length (write_all m.standing)) (length q.text))
      (λ e. rw e (λ _. record { length = refl; text = refl; numbers = refl })) (λ e. rw e (λ r. absurd (omega arith)))

  -- ---- Every call

  -- A REFUSED CALL changes nothing: its count, looks, length and days ticked are 0, and its lent lists keep every place
  pub refused_keeps : ((step m q).answer.refusal ≡ accepted → ⊥) → step m q ≡ refuse (step m q).answer.refusal m q
  refused_keeps not_done = ⊎_elim (λ e. absurd (not_done e)) (λ e. e)
      (every (λ x. (x.answer.refusal ≡ accepted) ⊎ (x ≡ refuse x.answer.refusal m q)) m q q.call (search (inl, inr)))

  -- ---- What a call leaves as it is

  -- QUESTIONS AND WRITING leave the state as it is
  pub reads_keep : reads q.call ≡ true → (step m q).state ≡ m
  reads_keep h = every (λ x. x.state ≡ m) m q q.call (record {
    refusing = λ n _. refl;
    asked = λ k l. refl;
    several = λ ds n _. refl;
    written = refl;
    changed = λ e. absurd (clash h e);
    published = λ rule e. absurd (clash h (ap reads e));
  })

  -- NOTHING BUT PUBLISH changes the published list
  pub published_kept : ((rule : ℕ) → q.call ≡ Publish rule → ⊥) → (step m q).state.published ≡ m.published
  published_kept other = every (λ x. x.state.published ≡ m.published) m q q.call (
      let no : (r : ℕ) → q.call ≡ Publish r → published_of r m.standing ≡ m.published = λ r e. absurd (other r e) in search)

  -- ---- The looks, and the days ticked

  -- THE LOOKS of any call are at most three times its count
  pub comparisons_few : (step m q).answer.comparisons ≤ 3 * (step m q).answer.count
  comparisons_few = every (λ x. x.answer.comparisons ≤ 3 * x.answer.count) m q q.call (search (comparisons_le, arith))

  -- THE DAYS TICKED are at most 64
  pub ticked_few : (step m q).answer.ticked ≤ 64
  ticked_few = every (λ x. x.answer.ticked ≤ 64) m q q.call (search arith)

-- ---- What is listed

module _ (t : Spell → Bool) (p : List Spell) where
  -- LISTED are exactly the spells of the list that pass the test
  pub listed_exactly : (x : Spell) → List-as-Memᴰ x (filter t p) ↔ (List-as-Memᴰ x p × (t x ≡ true))
  listed_exactly x = (filter_in t p x, λ i. in_filter t x p i.0 i.1)

  -- in the order; the published list is in the order and has unique numbers in every state that calls lead to (`Runs.antt`)
  pub listed_ordered : ordered_by listed_before p ≡ true → ordered_by listed_before (filter t p) ≡ true
  listed_ordered = filter_ordered t answer_order p

  -- of two listed spells with equal published days the one with the lower candidate number comes first
  pub twins_by_candidate : ordered_by listed_before p ≡ true → (before after : List Spell) (a b : Spell) → filter t p ≡ before ++ a ∷ after → List-as-Memᴰ b after
      → a.first ≡ b.first → a.last ≡ b.last → a.candidate ≤ b.candidate
  twins_by_candidate sorted before after a b e i f l = twins_rise a b f l (comes_before answer_order before after a b (rw e at (listed_ordered sorted)) i)

-- ---- The review calendar as a mask (document 02, W2)

-- a list each of whose days is above the one before
rising_of : (l : List ℕ) → ((k : ℕ) → suc k < length l → get_or l k 0 < get_or l (suc k) 0) → rising l ≡ true
unfolding rising
rising_of [] h = refl
rising_of (d ∷ []) h = refl
rising_of (d ∷ e ∷ l) h = rw (lt-ltb d e (h 0 (omega arith))) (rising_of (e ∷ l) (λ k g. h (suc k) (omega arith)))

-- an accepted answer with the number of days ticked; a refused one as it is
abbrev pub ticking : ℕ → Answer → Answer
ticking n a = cond (eqb a.refusal accepted)
    (record { refusal = a.refusal; count = a.count; comparisons = a.comparisons; length = a.length; ticked = n; numbers = a.numbers; text = a.text }) a

module _ (m : State) (q : Request) (b k : ℕ) where
  -- A TICKED DAY OFF THE CALENDAR gets 3
  pub mask_off : days_ok (ticks b k) ≡ false → step_of (Ask (Mask b k)) m q ≡ refuse off_calendar m q
  mask_off e = unfold effect_of ask settle in rw e

  -- WITH ALL TICKED DAYS ON IT there is no check but the short list: they rise, so that 10 is never given
  pub mask_on : days_ok (ticks b k) ≡ true
      → step_of (Ask (Mask b k)) m q ≡ settle (gives (listed (on_any (ticks b k)) m.published) 0 (length (ticks b k))) m q
  mask_on e = unfold effect_of ask in rw (e, rising_of (ticks b k) (rises b k))

  -- THE DAYS QUESTION for the ticked days has the same answer, but for the number of days ticked, which is told where it is accepted
  pub mask_as_days : (days : List ℕ) → days ≡ ticks b k
      → (step_of (Ask (Mask b k)) m q).answer ≡ ticking (length (ticks b k)) (step m (record { call = Ask Days; days = days; numbers = q.numbers; text = q.text })).answer
  mask_as_days days e = unfold effect_of ask settle in rw e (by_test (days_ok (ticks b k))
      (λ on. rw (on, rising_of (ticks b k) (rises b k)) (by_test (leb (length (listed (on_any (ticks b k)) m.published)) (length q.numbers)) (λ f. rw f) (λ f. rw f)))
      (λ off. rw off))

nobody : (p : List Spell) → listed (on_any []) p ≡ []
unfolding filter on_any
nobody [] = refl
nobody (s ∷ p) = nobody p

-- AN EMPTY MASK lists nobody and ticks 0 days, whatever its base and whatever list is lent
pub mask_empty : (m : State) (q : Request) (b : ℕ) → step_of (Ask (Mask b 0)) m q ≡ gave [] 0 0 m q
mask_empty m q b = unfold effect_of ask days_ok rising in rw (empty b) (rw (nobody m.published) (fits_given m q [] 0 0 (omega arith)))
