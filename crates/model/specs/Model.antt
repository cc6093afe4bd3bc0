-- The plain account of document 01: with which state it begins, what each call does, its checks in their order, and a whole
-- list of calls. Nothing of the program occurs here. Assumes nothing.
use Rattle.std.specs.Prelude.{ℕ, ◌&&◌, cond, List, [], ◌∷◌, leb, eqb, length}
use Rattle.refusal.specs.Table.{accepted, off_calendar, reversed, unknown_number, unsorted_days, no_such_rule}
use Rattle.rules.specs.Rules.{is_rule}
use Rattle.spell.specs.declared.Spell.{Spell}
use Rattle.calendar.specs.Calendar.{is_day, days_ok}
use Rattle.masks.specs.Masks.{ticks}
use Rattle.register.specs.Text.{Register, write_all}
use Rattle.register.specs.Text.Register.{good, bad}
use Rattle.model.specs.declared.Call.{Call}
use Rattle.model.specs.declared.Call.TheVariants.{Enter, Amend, Strike, TakeBack, Publish, Write, Ask}
use Rattle.model.specs.declared.Question.{Question}
use Rattle.model.specs.declared.Question.TheVariants.{Day, Span, Cover, Days, Mask}
use Rattle.model.specs.Edits.{insert, remove, replace, idle, enter_refusal, amend_refusal, strike_refusal, take_back_refusal, remember, front_or, rest_of}
use Rattle.model.specs.Publishing.{published_of}
use Rattle.model.specs.Questions.{reaches, on_any, rising, listed, comparisons_of}
use Rattle.model.specs.Effects.{Effect, refused, done, gives, writes, settle}
pub use Rattle.model.specs.Effects.{State, with_standing, with_published, Request, Answer, After}

-- ---- The beginning

-- a fresh service has all three lists empty
abbrev pub fresh : State
fresh = record { standing = []; past = []; published = [] }

-- reading a register makes a service with that standing list, an empty past and an empty published list; a refused reading
-- makes a fresh one
unfoldable pub begun : Register → State
begun (good l) = with_standing l [] fresh
begun (bad n line) = fresh

-- a reading's answer: the refusal's number and its line, counted from 1; 0 and 0 where it is accepted
abbrev pub refusal_in : Register → ℕ
refusal_in (good l) = accepted
refusal_in (bad n line) = n

abbrev pub line_in : Register → ℕ
line_in (good l) = 0
line_in (bad n line) = line

-- ---- Edits, take back, publish

-- where the check n accepts, the standing list becomes l and the past p
abbrev pub become : ℕ → List Spell → List (List Spell) → State → Effect
become n l p m = cond (eqb n accepted) (done (with_standing l p m)) (refused n)

-- an edit: the former standing list goes to the front of the past
abbrev pub edit : ℕ → List Spell → State → Effect
edit n l m = become n l (remember m.standing m.past) m

-- amend: where the spell equals the standing one in all fields, the whole state stays as it is
abbrev pub amend : Spell → State → Effect
amend s m =
    let n = amend_refusal m.standing s in
    cond (idle m.standing s) (become n m.standing m.past m) (edit n (replace s m.standing) m)

-- take back: the standing list becomes the front of the past, which loses it
unfoldable pub take_back : List (List Spell) → State → Effect
unfolding take_back_refusal front_or rest_of
take_back past m = become (take_back_refusal past) (front_or m.standing past) (rest_of past) m

-- publish by a rule, or 14: the published list becomes the standing list with the rule's days, in the order of the answers; the standing
-- list and the past are untouched
abbrev pub publish : ℕ → State → Effect
publish rule m = cond (is_rule rule) (done (with_published (published_of rule m.standing) m)) (refused no_such_rule)

-- ---- Questions, of the published list p

-- the spells with first ≤ h and last ≥ l, with their looks
abbrev pub reaching : ℕ → ℕ → List Spell → Effect
reaching h l p = gives (listed (reaches h l) p) (comparisons_of h l p) 0

-- the spells that contain at least one of the days ds: 3 over all, then 10; no looks are reported. So many days are ticked.
abbrev pub several : List ℕ → ℕ → List Spell → Effect
several ds ticked p = cond (days_ok ds) (cond (rising ds) (gives (listed (on_any ds) p) 0 ticked) (refused unsorted_days)) (refused off_calendar)

-- cover of the spell with the number k among those of a list
unfoldable pub cover : ℕ → List Spell → List Spell → Effect
cover k [] p = refused unknown_number
cover k (x ∷ l) p = cond (eqb x.number k) (reaching x.first x.last p) (cover k l p)

-- day: 3. Span: 3, 4. Cover: 7. Days, of the list ds. Mask (document 02, W2): the days question for the ticked days, with their number. Then 11,
-- of each.
unfoldable pub ask : Question → List ℕ → List Spell → Effect
ask (Day d) ds p = cond (is_day d) (reaching d d p) (refused off_calendar)
ask (Span a b) ds p = cond (is_day a && is_day b) (cond (leb a b) (reaching b a p) (refused reversed)) (refused off_calendar)
ask (Cover k) ds p = cover k p p
ask Days ds p = several ds 0 p
ask (Mask base mask) ds p = several (ticks base mask) (length (ticks base mask)) p

-- ---- Any call, and a whole list of calls

-- what a call does in the state m; ds are the days of a days question
unfoldable pub effect_of : Call → List ℕ → State → Effect
effect_of (Enter s) ds m = edit (enter_refusal m.standing s) (insert s m.standing) m
effect_of (Amend s) ds m = amend s m
effect_of (Strike k) ds m = edit (strike_refusal m.standing k) (remove k m.standing) m
effect_of TakeBack ds m = take_back m.past m
effect_of (Publish rule) ds m = publish rule m
effect_of Write ds m = writes (write_all m.standing)
effect_of (Ask w) ds m = ask w ds m.published

abbrev pub step_of : Call → State → Request → After
step_of c m q = settle (effect_of c q.days m) m q

abbrev pub step : State → Request → After
step m q = step_of q.call m q

-- each call is made on the state that the one before it left
unfoldable pub run : State → List Request → List Answer
run m [] = []
run m (q ∷ qs) = (step m q).answer ∷ run (step m q).state qs
