-- The contract of each public function and of each question, as the prover reads it, is a beginning or a step of `Made`; and what each asks. Assumes nothing.
use Rattle.basis.proofs.Prelude.{◌≡◌, refl, ℕ, List}
use contract.Lifetimes.{Lfts}
use denote.MutBor.{MutBor}
use denote.Ref.{Bor}
use Rattle.service.proofs.{Names.{Spell, read_text, Call, Enter, Amend, Strike, TakeBack, Publish, Write, Ask, Question, fresh, Outcome, asking, Published, Service, Stepped, Started, fresh_service, Blocks, blocks, Valid, Represents, Given, keeping, Met, Changed, Changes, Begins, begun_in, Steps}, Asking.asked_met, Beginning.publishes_met}
use Rattle.model.specs.declared.Question.TheVariants.{Day, Span, Cover, Days, Mask}
use Rattle.service.specs.Packed.{unpacked, Packs}
use Rattle.service.proofs as calls
use Rattle.questions.proofs as questions

-- a function asks `asks` and no more, and ensures `ensures`
abbrev pub Is : {A B R : Type 0} → (A → Type 0) → (A → R → B → Type 0) → A → R → B → Type 0 → Type 0 → Type 1
Is pre post a r b asks ensures = (pre a ≡ asks) × (post a r b ≡ ensures)

-- and its contract, that it ensures what it does where it is given what it asks, is a step
abbrev pub Ties : {A B R : Type 0} → (A → Type 0) → (A → R → B → Type 0) → A → R → B → Type 0 → Type 0 → Type 1
Ties pre post a r b asks step = (pre a ≡ asks) × ((pre a → post a r b) → step)

-- ---- The beginning

pub fresh_is : (κs : Lfts 1) (sv : Service) (index index' : MutBor (List ℕ)) → Is (calls.fresh.Reads.Pre κs) (calls.fresh.Reads.Post κs) (index, tt) sv (index', tt)
    (Unit {0}) (Represents sv (blocks index'.now) fresh × (sv ≡ fresh_service))
fresh_is κs sv index index' = (refl, refl)

pub read_is : (κs : Lfts 2) (r : Started) (text : Bor (List ℕ)) (index index' : MutBor (List ℕ)) → Is (calls.read.Reads.Pre κs) (calls.read.Reads.Post κs) (text, (index, tt)) r (text, (index', tt))
    (Unit {0}) (Begins (read_text text.now) (begun_in r) (blocks index'.now))
read_is κs r text index index' = (refl, refl)

-- ---- Edits: of an edit or a take back a step

module _ (κs : Lfts 0) (sv : Service) (r : Stepped) where
  pub edit_is : (c : Call) → Is (calls.edit.Reads.Pre κs) (calls.edit.Reads.Post κs) (sv, (c, tt)) r (sv, (c, tt)) (Valid sv) (Changes sv c r)
  edit_is c = (refl, refl)

  module _ (bs : Blocks) (days numbers text : List ℕ) where
    -- the contract of `edit` gives a step of the call c
    abbrev pub EditSteps : Call → Type 1
    EditSteps c = Ties (calls.edit.Reads.Pre κs) (calls.edit.Reads.Post κs) (sv, (c, tt)) r (sv, (c, tt)) (Valid sv) (Steps sv bs (asking c days numbers text) r bs numbers text)

    edit_steps : (c : Call) → (Changes sv c r → Changed sv c r) → EditSteps c
    edit_steps c f = (refl, λ met g. (f (met g.valid)).met bs days numbers text g)

    pub edits_step : (s : Spell) (k : ℕ) → EditSteps (Enter s) × EditSteps (Amend s) × EditSteps (Strike k) × EditSteps TakeBack
    edits_step s k = (edit_steps (Enter s) (λ d. d), edit_steps (Amend s) (λ d. d), edit_steps (Strike k) (λ d. d), edit_steps TakeBack (λ d. d))

-- ---- Publish and writing

module _ (κs : Lfts 1) (sv : Service) (bs : Blocks) (days numbers text : List ℕ) where
  pub publish_steps : (r : Stepped) (rule : ℕ) (index index' : MutBor (List ℕ))
      → Ties (calls.publish.Reads.Pre κs) (calls.publish.Reads.Post κs) (sv, (rule, (index, tt))) r (sv, (rule, (index', tt)))
      (Valid sv) (Steps sv (blocks index.now) (asking (Publish rule) days numbers text) r (blocks index'.now) numbers text)
  publish_steps r rule index index' = (refl, λ met g. publishes_met (met g.valid) days numbers text g)

  pub write_steps : (o : Outcome) (text text' : MutBor (List ℕ)) → Ties (calls.write.Reads.Pre κs) (calls.write.Reads.Post κs) (sv, (text, tt)) o (sv, (text', tt))
      (Valid sv) (Steps sv bs (asking Write days numbers text.now) (keeping sv o) bs numbers text'.now)
  write_steps o text text' = (refl, λ met g. (met g.valid).met bs days numbers g)

-- ---- Questions

module _ (index : Bor (List ℕ)) (numbers numbers' : MutBor (List ℕ)) (o : Outcome) (sv : Service) (text : List ℕ) where
  -- a contract gives a step of the question w, with the days of a days question
  abbrev pub Asks : {A B : Type 0} → (A → Type 0) → (A → Outcome → B → Type 0) → A → B → Question → List ℕ → Type 1
  Asks pre post a b w days = Ties pre post a o b (Published index.now) (Steps sv (blocks index.now) (asking (Ask w) days numbers.now text) (keeping sv o) (blocks index.now) numbers'.now text)

  module _ (κs : Lfts 2) (days : List ℕ) where
    pub day_steps : (d : ℕ) → Asks (questions.day.Reads.Pre κs) (questions.day.Reads.Post κs) (index, (d, (numbers, tt))) (index, (d, (numbers', tt))) (Day d) days
    day_steps d = (refl, λ met g. asked_met (met g.published days) sv text g)

    pub span_steps : (a b : ℕ) → Asks (questions.span.Reads.Pre κs) (questions.span.Reads.Post κs) (index, (a, (b, (numbers, tt)))) (index, (a, (b, (numbers', tt)))) (Span a b) days
    span_steps a b = (refl, λ met g. asked_met (met g.published days) sv text g)

    pub cover_steps : (k : ℕ) → Asks (questions.cover.Reads.Pre κs) (questions.cover.Reads.Post κs) (index, (k, (numbers, tt))) (index, (k, (numbers', tt))) (Cover k) days
    cover_steps k = (refl, λ met g. asked_met (met g.published days) sv text g)

    pub mask_steps : (b k : ℕ) → Asks (questions.mask.Reads.Pre κs) (questions.mask.Reads.Post κs) (index, (b, (k, (numbers, tt)))) (index, (b, (k, (numbers', tt)))) (Mask b k) days
    mask_steps b k = (refl, λ met g. asked_met (met g.published days) sv text g)

  module _ (κs : Lfts 3) (days : Bor (List ℕ)) where
    pub days_steps : Asks (questions.days.Reads.Pre κs) (questions.days.Reads.Post κs) (index, (days, (numbers, tt))) (index, (days, (numbers', tt))) Days days.now
    days_steps = (refl, λ met g. asked_met (met g.published) sv text g)

    pub ask_steps : (w : Question) → Asks (questions.ask.Reads.Pre κs) (questions.ask.Reads.Post κs) (index, (w, (days, (numbers, tt)))) (index, (w, (days, (numbers', tt)))) w days.now
    ask_steps w = (refl, λ met g. asked_met (met g.published) sv text g)

-- ---- Any call: the step itself, and nothing weaker

module _ (κs : Lfts 4) (sv : Service) (call : Call) (days : Bor (List ℕ)) (index index' numbers numbers' text text' : MutBor (List ℕ)) (r : Stepped) where
  pub step_is : Is (calls.step.Reads.Pre κs) (calls.step.Reads.Post κs)
      (sv, (index, (call, (days, (numbers, (text, tt)))))) r (sv, (index', (call, (days, (numbers', (text', tt))))))
      (Given sv (blocks index.now)) (Met sv (blocks index.now) (asking call days.now numbers.now text.now) r (blocks index'.now) numbers'.now text'.now)
  step_is = (refl, refl)

-- ---- In words

module _ (κs : Lfts 1) (sv : Service) where
  pub pack_is : (words words' : MutBor (List ℕ)) (u : Unit {0}) → Is (calls.pack.Reads.Pre κs) (calls.pack.Reads.Post κs) (sv, (words, tt)) u (sv, (words', tt)) (Valid sv) (Packs sv words'.now)
  pack_is words words' u = (refl, refl)

  pub unpack_is : (words : Bor (List ℕ)) → Is (calls.unpack.Reads.Pre κs) (calls.unpack.Reads.Post κs) (words, tt) sv (words, tt) (Unit {0}) (sv ≡ unpacked words.now)
  unpack_is words = (refl, refl)
