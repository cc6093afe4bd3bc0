-- A history's call is the contract of an exported function itself, as the prover reads it: each contract gives one; and what each asks.
-- Assumes nothing.
use Rattle.basis.proofs.Prelude.{◌≡◌, refl, ℕ, List, []}
use contract.Lifetimes.{Lfts}
use denote.MutBor.{MutBor}
use denote.Ref.{Bor}
use Rattle.register.specs.Text.{read_text}
use Rattle.model.specs.{declared.{Call.{Call, TheVariants.{Enter, Amend, Strike, TakeBack, Publish, Write, Ask}}, Question.{Question, TheVariants.{Day, Span, Cover, Days, Mask}}}, Model.{fresh, begun}}
use Rattle.service.{specs.{Places.fresh_service, Packed.{packed, unpacked}, Service.{Blocks, blocks, Represents, Begins}}, proofs.Tied.{Is, Ties}}
use Rattle.outcomes.specs.Outcomes.{asking}
use Rattle.published_index.specs.Index.{index_of, Published}
use Rattle.hosting.specs.{declared.{Entry.Entry, Reply.Reply, Opened.Opened}, Host.{version, Held, Laid, spell_in, started_of}, History.{Opens, Called, edited, published, wrote, asked}}
use Rattle.phayaklit.proofs as calls

-- ---- The beginning

module _ (κs : Lfts 2) (words words' index index' : MutBor (List ℕ)) (u : Unit {0}) where
  pub fresh_is : Is (calls.phayaklit_fresh.Reads.Pre κs) (calls.phayaklit_fresh.Reads.Post κs) (words, (index, tt)) u (words', (index', tt))
      (Unit {0}) (Represents (unpacked words'.now) (blocks index'.now) fresh × (Laid words'.now × (words'.now ≡ packed fresh_service)))
  fresh_is = (refl, refl)

  pub fresh_opens : calls.phayaklit_fresh.Reads.Post κs (words, (index, tt)) u (words', (index', tt)) → Opens words'.now (blocks index'.now) fresh
  fresh_opens f = (f.0, f.1.0)

module _ (κs : Lfts 3) (text : Bor (List ℕ)) (words words' index index' : MutBor (List ℕ)) (r : Opened) where
  pub read_is : Is (calls.phayaklit_read.Reads.Pre κs) (calls.phayaklit_read.Reads.Post κs) (text, (words, (index, tt))) r (text, (words', (index', tt)))
      (Unit {0}) (Begins (read_text text.now) (started_of words'.now r) (blocks index'.now) × Laid words'.now)
  read_is = (refl, refl)

  pub read_opens : calls.phayaklit_read.Reads.Post κs (text, (words, (index, tt))) r (text, (words', (index', tt)))
      → Opens words'.now (blocks index'.now) (begun (read_text text.now))
  read_opens b = (b.0.represents, b.1)

-- ---- Edits

module _ (κs : Lfts 1) (words words' : MutBor (List ℕ)) (r : Reply) (bs : Blocks) (days numbers text : List ℕ) where
  -- a contract gives an edit by the call c
  abbrev pub Edits : {A B : Type 0} → (A → Type 0) → (A → Reply → B → Type 0) → A → B → Call → Type 1
  Edits pre post a b c = Ties pre post a r b (Held words.now) (Called words.now bs (asking c days numbers text) r words'.now bs numbers text)

  pub enter_called : (e : Entry) → Edits (calls.phayaklit_enter.Reads.Pre κs) (calls.phayaklit_enter.Reads.Post κs) (words, (e, tt)) (words', (e, tt)) (Enter (spell_in e))
  enter_called e = (refl, edited (Enter (spell_in e)) r)

  pub amend_called : (e : Entry) → Edits (calls.phayaklit_amend.Reads.Pre κs) (calls.phayaklit_amend.Reads.Post κs) (words, (e, tt)) (words', (e, tt)) (Amend (spell_in e))
  amend_called e = (refl, edited (Amend (spell_in e)) r)

  pub strike_called : (n : ℕ) → Edits (calls.phayaklit_strike.Reads.Pre κs) (calls.phayaklit_strike.Reads.Post κs) (words, (n, tt)) (words', (n, tt)) (Strike n)
  strike_called n = (refl, edited (Strike n) r)

  pub take_back_called : Edits (calls.phayaklit_take_back.Reads.Pre κs) (calls.phayaklit_take_back.Reads.Post κs) (words, tt) (words', tt) TakeBack
  take_back_called = (refl, edited TakeBack r)

-- ---- Publish and writing

module _ (κs : Lfts 2) (words : Bor (List ℕ)) (r : Reply) (days numbers : List ℕ) where
  pub publish_called : (text : List ℕ) (rule : ℕ) (index index' : MutBor (List ℕ))
      → Ties (calls.phayaklit_publish.Reads.Pre κs) (calls.phayaklit_publish.Reads.Post κs) (words, (rule, (index, tt))) r (words, (rule, (index', tt)))
      (Held words.now) (Called words.now (blocks index.now) (asking (Publish rule) days numbers text) r words.now (blocks index'.now) numbers text)
  publish_called text rule index index' = (refl, published rule r)

  pub write_called : (bs : Blocks) (text text' : MutBor (List ℕ)) → Ties (calls.phayaklit_write.Reads.Pre κs) (calls.phayaklit_write.Reads.Post κs) (words, (text, tt)) r (words, (text', tt))
      (Held words.now) (Called words.now bs (asking Write days numbers text.now) r words.now bs numbers text'.now)
  write_called bs text text' = (refl, wrote r)

-- ---- Questions

module _ (index : Bor (List ℕ)) (numbers numbers' : MutBor (List ℕ)) (r : Reply) (words text : List ℕ) where
  -- a contract gives an answer to the question w, with the days of a days question
  abbrev pub Answers : {A B : Type 0} → (A → Type 0) → (A → Reply → B → Type 0) → A → B → Question → List ℕ → Type 1
  Answers pre post a b w days =
      Ties pre post a r b (Published index.now) (Called words (blocks index.now) (asking (Ask w) days numbers.now text) r words (blocks index.now) numbers'.now text)

  module _ (κs : Lfts 2) (days : List ℕ) where
    pub day_called : (d : ℕ) → Answers (calls.phayaklit_day.Reads.Pre κs) (calls.phayaklit_day.Reads.Post κs) (index, (d, (numbers, tt))) (index, (d, (numbers', tt))) (Day d) days
    day_called d = (refl, λ met. asked (Day d) r (λ p. met p days))

    pub span_called : (a b : ℕ) → Answers (calls.phayaklit_span.Reads.Pre κs) (calls.phayaklit_span.Reads.Post κs) (index, (a, (b, (numbers, tt)))) (index, (a, (b, (numbers', tt)))) (Span a b) days
    span_called a b = (refl, λ met. asked (Span a b) r (λ p. met p days))

    pub cover_called : (n : ℕ) → Answers (calls.phayaklit_cover.Reads.Pre κs) (calls.phayaklit_cover.Reads.Post κs) (index, (n, (numbers, tt))) (index, (n, (numbers', tt))) (Cover n) days
    cover_called n = (refl, λ met. asked (Cover n) r (λ p. met p days))

    pub mask_called : (b k : ℕ) → Answers (calls.phayaklit_mask.Reads.Pre κs) (calls.phayaklit_mask.Reads.Post κs) (index, (b, (k, (numbers, tt)))) (index, (b, (k, (numbers', tt)))) (Mask b k) days
    mask_called b k = (refl, λ met. asked (Mask b k) r (λ p. met p days))

  pub days_called : (κs : Lfts 3) (days : Bor (List ℕ)) → Answers (calls.phayaklit_days.Reads.Pre κs) (calls.phayaklit_days.Reads.Post κs) (index, (days, (numbers, tt))) (index, (days, (numbers', tt))) Days days.now
  days_called κs days = (refl, asked Days r)

-- ---- A second index, and the version

pub fresh_index_is : (κs : Lfts 1) (index index' : MutBor (List ℕ)) (u : Unit {0})
    → Is (calls.phayaklit_fresh_index.Reads.Pre κs) (calls.phayaklit_fresh_index.Reads.Post κs) (index, tt) u (index', tt) (Unit {0}) (index'.now ≡ index_of [])
fresh_index_is κs index index' u = (refl, refl)

pub version_is : (κs : Lfts 0) (r : ℕ) → Is (calls.phayaklit_version.Reads.Pre κs) (calls.phayaklit_version.Reads.Post κs) tt r tt (Unit {0}) (r ≡ version)
version_is κs r = (refl, refl)
