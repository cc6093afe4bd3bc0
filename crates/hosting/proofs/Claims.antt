-- What the library is for: whoever makes the calls, through the exported functions and on words that a host lent, the answers
-- are the account's. Assumes nothing.
use Rattle.basis.proofs.Prelude.{◌∙◌, ◌≡◌, ap, refl, sym, ℕ, List, [], false, true, eqb}
use Rattle.spell.{specs.{declared.{Spell.Spell}, Listing.Sound}, proofs.Order.answer_order}
use Rattle.refusal.specs.Table.{accepted}
use Rattle.register.specs.Text.{read_text}
use Rattle.model.{specs.{Model.{State, with_standing, fresh, begun, refusal_in, line_in, Request, Answer, run}, declared.Call.{Call, TheVariants.Amend}, Edits.idle}, proofs.Edits.orderly_none}
use Rattle.packing.specs.{Blocks.Every, Words.{Narrow, urgency_of}}
use Rattle.standing.{specs.Standing.{list_of, pasts}, proofs.Packed.packing_identity}
use Rattle.published_index.specs.Index.{index_of}
use Rattle.service.{specs.{declared.Service.Service, Places.{service_of, read_service, leaves_of, leaves}, Packed.{packed, unpacked}, Service.{Blocks, Valid, Represents, Given, Met, Changed, Begins}}, proofs.{Represented.represented, Asking.asked_met, Beginning.{publishes_met, publishes_refused}, Claims.{made_run, made_given, idle_left}}}
use Rattle.service.specs.History as history
use Rattle.hosting.specs.{declared.{Reply.Reply, Opened.Opened}, Host.{Held, Laid, spell_in, stepped_of, started_of}, History.{Opens, Called, edited, published, wrote, asked, Hosted, none, then}}

-- PACKING IS THE IDENTITY: the words of a service read back as it. `pack` ensures it of every one that it is given.
pub packed_back : (sv : Service) → Valid sv → Every (λ s. Narrow s.urgency) sv.standing.spells
    → Every (λ e. Narrow e.spell.urgency) sv.standing.journal → unpacked (packed sv) ≡ sv
packed_back sv v spells journal = ap service_of (packing_identity sv.standing v.standing spells journal)

-- EVERY WORD after an edit or a take back is given by the words before and the call
pub edited_words : (words : List ℕ) {words' : List ℕ} {c : Call} {r : Reply} → Laid words' → Changed (unpacked words) c (stepped_of words' r)
    → words' ≡ packed (leaves (unpacked words) c)
edited_words words a d = a ∙ ap packed d.whole

module _ (register words : List ℕ) {bs : Blocks} {r : Opened} where
  -- and after a reading by the text alone
  pub read_words : Laid words → Begins (read_text register) (started_of words r) bs → words ≡ packed (read_service (read_text register))
  read_words a b = a ∙ ap packed b.whole

  -- WHAT A READING TELLS is the register's refusal and its line
  pub read_told : Begins (read_text register) (started_of words r) bs → (r.refusal ≡ refusal_in (read_text register)) × (r.line ≡ line_in (read_text register))
  read_told b = (b.refusal, b.line)

-- A SPELL IN A HOST'S STRUCT: each field is that of its name
pub spell_read : (n k f l g : ℕ) → spell_in (record { number = n; candidate = k; first = f; last = l; kind = 0; value = g })
    ≡ record { number = n; candidate = k; first = f; last = l; urgency = urgency_of 0 g }
spell_read n k f l g = refl

-- ---- Lists of calls

-- EACH EXPORTED CALL is a step of the service that the words hold
pub called_met : {words words' : List ℕ} {bs bs' : Blocks} {numbers text : List ℕ} {q : Request} {r : Reply} → Called words bs q r words' bs' numbers text
    → Given (unpacked words) bs → Met (unpacked words) bs q (stepped_of words' r) bs' numbers text
called_met (edited {bs = bs} {days} {numbers} {text} c r met) g = (met g.valid).0.met bs days numbers text g
called_met (published {days = days} {numbers} {text} rule r met) g = publishes_met (met g.valid) days numbers text g
called_met (wrote {bs = bs} {days} {numbers} r met) g = (met g.valid).met bs days numbers g
called_met (asked {words} {text = text} w r met) g = asked_met (met g.published) (unpacked words) text g

-- the service after it is given, words that are laid out stay so, and where it is refused service and blocks are as they were
record Leaves (words : List ℕ) (bs : Blocks) (q : Request) (r : Reply) (words' : List ℕ) (bs' : Blocks) : Type 0 where
  pub whole : unpacked words' ≡ leaves (unpacked words) q.call
  pub laid : Laid words → Laid words'
  pub kept : eqb r.refusal accepted ≡ false → (unpacked words' ≡ unpacked words) × (bs' ≡ bs)

called_leaves : {words words' : List ℕ} {bs bs' : Blocks} {numbers text : List ℕ} {q : Request} {r : Reply} → Given (unpacked words) bs
    → Called words bs q r words' bs' numbers text → Leaves words bs q r words' bs'
unfolding leaves_of
called_leaves g (edited c r met) = let k = met g.valid in record { whole = k.0.whole; laid = k.1; kept = λ t. (k.0.kept t, refl) }
called_leaves g (published rule r met) = record { whole = refl; laid = λ l. l; kept = λ t. (refl, publishes_refused (met g.valid) t) }
called_leaves g (wrote r met) = record { whole = refl; laid = λ l. l; kept = λ t. (refl, refl) }
called_leaves g (asked w r met) = record { whole = refl; laid = λ l. l; kept = λ t. (refl, refl) }

-- a list of them is a list of calls on that service
pub hosted_made : {words words' : List ℕ} {bs bs' : Blocks} {qs : List Request} {answers : List Answer} → Hosted words bs qs answers words' bs'
    → history.Made (unpacked words) bs qs answers (unpacked words') bs'
hosted_made none = history.none
hosted_made (then {words' = words'} {bs' = bs'} {numbers} {text} {r = r} c more) = history.then (stepped_of words' r) bs' numbers text (called_met c) (hosted_made more)

-- and leaves words that are laid out laid out
pub hosted_laid : {words words' : List ℕ} {bs bs' : Blocks} {qs : List Request} {answers : List Answer} → Given (unpacked words) bs → Laid words
    → Hosted words bs qs answers words' bs' → Laid words'
hosted_laid g l none = l
hosted_laid g l (then c more) = hosted_laid (called_met c g).given ((called_leaves g c).laid l) more

-- the state of a service with an index of nobody: its standing list and its past are its own
abbrev pub beside : List ℕ → State
beside words = with_standing (list_of (unpacked words).standing) (pasts (unpacked words).standing) fresh

module _ {words words' : List ℕ} {bs bs' : Blocks} {qs : List Request} {answers : List Answer} where
  -- THE `requires` OF EVERY CALL IS MET: the words stay those of a service that the calls gave, and the blocks such as they gave
  pub hosted_given : Given (unpacked words) bs → Hosted words bs qs answers words' bs' → Given (unpacked words') bs'
  hosted_given g h = made_given g (hosted_made h)

  -- BEGUN BY `phayaklit_fresh`: what it ensures of the words and the blocks is enough
  pub hosted_fresh : Opens words bs fresh → Hosted words bs qs answers words' bs' → answers ≡ run fresh qs
  hosted_fresh o h = made_run fresh o.0 (hosted_made h)

  -- BEGUN BY `phayaklit_read`, a refused reading included
  pub hosted_read : (register : List ℕ) (r : Opened) → Begins (read_text register) (started_of words r) bs → Hosted words bs qs answers words' bs' → answers ≡ run (begun (read_text register)) qs
  hosted_read register r b h = made_run (begun (read_text register)) b.represents (hosted_made h)

  -- BEGUN BY `phayaklit_fresh_index` beside a service that the calls gave: the answers are the account's from that state
  pub hosted_second : Held words → bs.index ≡ index_of [] → Hosted words bs qs answers words' bs' → answers ≡ run (beside words) qs
  hosted_second h e c = made_run (beside words) (record { valid = h; standing = refl; past = refl; shows = record { good = orderly_none answer_order Sound; index = e } }) (hosted_made c)

-- ---- Word for word

module _ {words words' words'' : List ℕ} {bs bs' bs'' : Blocks} {numbers text : List ℕ} {m : State} {qs : List Request} {answers : List Answer} {q : Request} {r : Reply}
    (o : Opens words bs m) (h : Hosted words bs qs answers words' bs') (c : Called words' bs' q r words'' bs'' numbers text) where
  left : Leaves words' bs' q r words'' bs''
  left = called_leaves (hosted_given (represented o.0) h) c

  -- words that are laid out are given by the service that they hold
  same : unpacked words'' ≡ unpacked words' → words'' ≡ words'
  same e = let l = hosted_laid (represented o.0) o.1 h in left.laid l ∙ ap packed e ∙ sym l

  -- A REFUSED CALL leaves the host's words and blocks as they were, word for word, wherever it stands in a list of calls
  pub refused_keeps_words : eqb r.refusal accepted ≡ false → (words'' ≡ words') × (bs'' ≡ bs')
  refused_keeps_words t = let k = left.kept t in (same k.0, k.1)

  -- AN IDLE AMEND leaves the host's words as they were, word for word, wherever it stands in a list of calls
  pub idle_keeps_words : {m' : State} (s : Spell) → Represents (unpacked words') bs' m' → q.call ≡ Amend s → idle m'.standing s ≡ true → words'' ≡ words'
  idle_keeps_words s stands is e = same (left.whole ∙ ap (leaves (unpacked words')) is ∙ idle_left s stands e)
