-- The turn of each kind of request: a call's answer on the wire is the account's, and what is answered on the blocks alone is answered beside any service.
-- Assumes nothing.
use Rattle.basis.proofs.Prelude.{◌≡◌, ap, refl, ◌*◌, ◌≤◌, ℕ, List, Bool, drop, length, length-append, length-replicate, zero-le, arith, ◌∙◌, ◌<◌, min, ◌++◌, take, eq-eqb, le-leb, lt-leb, ne_eqb, sym, [], ◌∷◌, take-append-drop}
use Rattle.spell.specs.{declared.Spell.Spell, Listing.Good}
use Rattle.register.{specs.Text.{write_all, Register, read_text, Register.bad}, proofs.Texts.written_width}
use Rattle.model.{specs.{declared.{Call.{Call, TheVariants.{Enter, Amend, Strike, TakeBack, Publish, Write, Ask}}, Question.Question}, Questions.listed, Effects.{After, gave}, Model.{State, Request, Answer, effect_of, step, fresh, begun}}, proofs.{Bridge.comparisons_le, Effects.every, Filter.listed_few}}
use Rattle.service.{specs.{declared.{Service.Service, Stepped.Stepped}, Service.{Blocks, Given, Met, Represents, Begins, Begun, blocks}}, proofs.{Represented.{state_of, stands, represented}, Asking.asked_met}}
use Rattle.outcomes.specs.{Outcomes.{asking}, declared.Outcome.Outcome}
use Rattle.replies.{specs.{Sending.{Sends, reply_text}, Fitting.Fits, Replies.{ok_text, malformed_text, refused_line, reading_text}}, proofs.Fitting.replied}
use Rattle.conversations.specs.{Conversation.{call_of, turn_by, register_of, turn_of}, Clauses.{CallTurn, AskTurn}, declared.{Answered.Answered, Wanted.{Wanted, TheVariants.{Call as WantedCall, Read as WantedRead}}, Looked.Looked}, Answering.{Taken, Restarted, Answers, Carries, asked_in, beside, lent_of, room_of, is_question, wanted_in, wanted_by, LooksAt, Looks}}
use Rattle.conversations.proofs.Shown.{Same, same_settle, same_call}
use Rattle.buffer.proofs.Over.{least_names}
use Rattle.requests.{specs.{Requests.{asks_call, malformed, asked_of}, declared.Request.{Request as RequestIn, TheVariants.{Call as RequestCall, Room as RequestRoom}}, Parsing.{request_of, asked_from, days_in, room_in, Parses}}, proofs.Asking.parsed_asked}
use Rattle.questions.specs.Asked.{Asked}

-- ---- each number of an answer is one that a decimal has, and the lists are as long as it says
fits_step : (m : State) (q : Request) → Good m.standing → length m.published ≤ 1024 → Fits (step m q).answer
fits_step m q standing published =
    let w = write_all m.standing in
    let wide = written_width m.standing standing in
    let long = length-append w (drop (length w) q.text) in
    every (λ (x : After). Fits x.answer) m q q.call (search (listed_fits, comparisons_le, zero-le, arith))
  where
    listed_fits : (t : Spell → Bool) (c n : ℕ) → c ≤ 3 * length (listed t m.published) → n ≤ 64
        → Fits (gave (listed t m.published) c n m q).answer
    listed_fits t c n few ticked =
        let ns = listed t m.published in
        omega (arith, listed_few t m.published, length-append ns (drop (length ns) q.numbers))

-- ---- the turn of a call, by the bytes that are put of its outcome
pub call_turned : {sv : Service} {bs : Blocks} {call : Call} {days numbers text : List ℕ} {room : ℕ} {r : Stepped} {bs' : Blocks}
    {ns ts out out' : List ℕ} {place : ℕ}
    → Given sv bs → (room ≤ 65536) × (length numbers ≡ room) × (length text ≡ room) → Met sv bs (asking call days numbers text) r bs' ns ts
    → Sends (reply_text call r.outcome ns ts) out place out'
    → CallTurn sv bs (asking call days numbers text) room out (record { service = r.service; room = room; place = place }) bs' ns ts out'
call_turned {sv} {bs} {call} {days} {numbers} {text} {room} {r} {bs'} {out = out} {out'} {place} g l met s =
    let fit = fits_step (state_of g) (asking call days numbers text) g.valid.standing.good g.published.shows.good.few in
    let same : (m : State) → Same (step m (asking call days numbers text)) (step m (call_of call days room)) =
    λ m. same_settle m _ _ (rw (l.1, length-replicate)) (rw (l.2, length-replicate)) (effect_of call days m) in
    let taken : (m : State) → Represents sv bs m → Taken (turn_by call room (step m (call_of call days room))) out (record { service = r.service; room = room; place = place }) bs' out' =
    λ m rep. record {
      sends = rw (met.answer m rep, same_call call _ _ (same m)) at (replied _ (rw (met.answer (state_of g) (stands g)) fit) s);
      after = rw (same m).state at (met.after m rep);
      room = refl;
    } in
    record {
      turned = search taken;
      lists = λ m rep. (ap (λ (a : Answer). a.numbers) (met.answer m rep), ap (λ (a : Answer). a.text) (met.answer m rep));
    }

-- ---- a reading

-- the answer of a text that is read, by what the service began with
module _ {t : Register} {g : Begun} {bs : Blocks} {out out' : List ℕ} {place : ℕ} (b : Begins t g bs) where
  pub says_refused : (g.refusal ≡ 0 → ⊥) → Sends (refused_line g.refusal g.line) out place out' → Sends (reading_text t) out place out'
  unfolding reading_text
  says_refused e s = rw (← b.refusal, ← b.line, ne_eqb g.refusal 0 e) s

  pub says_ok : g.refusal ≡ 0 → Sends ok_text out place out' → Sends (reading_text t) out place out'
  unfolding reading_text
  says_ok e s = rw (← b.refusal, eq-eqb g.refusal 0 e) s

-- a text above 65,536 bytes is dropped
pub register_long : (n : ℕ) (payload : List ℕ) → 65536 < n → register_of n payload ≡ bad 12 0
register_long n payload h = unfold register_of in rw (lt-leb n 65536 h)

pub register_read : (n : ℕ) (payload : List ℕ) → n ≤ 65536 → register_of n payload ≡ read_text payload
register_read n payload h = unfold register_of in rw (le-leb n 65536 h)

pub restarted : (room : ℕ) {lent n place : ℕ} {payload out out' : List ℕ} {bs : Blocks} {sv : Service} → lent ≡ min room 65536
    → Represents sv bs (begun (register_of n payload)) → Sends (reading_text (register_of n payload)) out place out'
    → Restarted (room_of room) n payload out (record { service = sv; room = lent; place = place }) bs out'
unfolding turn_of
restarted room is r s = record { given = represented r; taken = λ m. record { sends = s; after = r; room = is } }

-- ---- a call
pub turn_call : {sv : Service} {bs bs' : Blocks} {room : ℕ} {payload numbers text out numbers' text' out' : List ℕ} {c : Call} {ds ns ts : List ℕ} {r : Answered}
    → CallTurn sv bs (lent_of c ds room numbers text) room out r bs' ns ts out' → numbers' ≡ ns ++ drop room numbers → text' ≡ ts ++ drop room text
    → Answers sv bs room (asks_call c ds) payload numbers text out r bs' numbers' text' out'
unfolding turn_of
turn_call d n t = record { turned = d.turned; lists = λ m rep. (n ∙ rw (d.lists m rep).0, t ∙ rw (d.lists m rep).1) }

-- ---- a line of no form leaves the service as it is
pub turn_malformed : {sv : Service} {bs : Blocks} {room place : ℕ} {payload numbers text out out' : List ℕ} → Given sv bs → room ≤ 65536
    → Sends malformed_text out place out' → Answers sv bs room malformed payload numbers text out (beside sv room place) bs numbers text out'
unfolding turn_of
turn_malformed g top s = search

-- ---- what is wanted
module _ (room : ℕ) (days : List ℕ) {w : Wanted} {sv : Service} {bs bs' : Blocks} {payload numbers text out : List ℕ} {r : Answered} where
  -- a count above the places of the list that is lent for days names all of them
  pub carries_call : {c : Call} {k lent few : ℕ} {numbers' text' out' : List ℕ} → w ≡ WantedCall c k → length days ≡ 32768
      → lent ≡ min room 65536 → few ≡ min k 32768
      → Carries sv bs lent (asks_call c (take few days)) numbers text out r bs' numbers' text' out'
      → Answers sv bs (room_of room) (asked_in w days) payload numbers text out r bs' numbers' text' out'
  carries_call {k = k} e long is n d = rw e (rw (is, least_names k days long n) at (d payload))

  pub carries_read : {n : ℕ} {out' : List ℕ} → w ≡ WantedRead n → Restarted (room_of room) n payload out r bs' out'
      → Answers sv bs (room_of room) (asked_in w days) payload numbers text out r bs' numbers text out'
  unfolding turn_of
  carries_read e d = rw e (record {
    turned = record { given = d.given; room = omega (arith, (d.taken fresh).room); taken = λ m rep. d.taken m };
    lists = λ m rep. (refl, refl);
  })

-- ---- a question

pub ask_turned : {ix : List ℕ} {w : Question} {days numbers text : List ℕ} {o : Outcome} {room : ℕ} {numbers' out out' : List ℕ} {place : ℕ}
    → (room ≤ 65536) × (length numbers ≡ room) × (length text ≡ room) → Asked ix w days numbers o numbers'
    → Sends (reply_text (Ask w) o numbers' text) out place out' → AskTurn (blocks ix) w days numbers text room out place numbers' out'
ask_turned {text = text} l a s sv g = call_turned g l (asked_met a sv text g) s

-- ---- a request that is parsed

-- the days and the room of one that is known
pub days_in_lem : {w : RequestIn} {c : Call} {k n : ℕ} → w ≡ RequestCall c k → days_in w ≤ n → k ≤ n
days_in_lem e h = rw e at h

pub room_in_lem : {w : RequestIn} {k n : ℕ} → w ≡ RequestRoom k → room_in w ≤ n → k ≤ n
room_in_lem e h = rw e at h

-- a question, lent the first places of the lists
pub looks_question : {bs : Blocks} {room place : ℕ} {w : Question} {ds numbers text ns out out' : List ℕ}
    → AskTurn bs w ds (take room numbers) (take room text) room out place ns out' → (sv : Service) → Given sv bs
    → Carries sv bs room (asks_call (Ask w) ds) numbers text out (beside sv room place) bs (ns ++ drop room numbers) text out'
looks_question {room = room} {text = text} t sv g payload = turn_call (t sv g) refl (sym (take-append-drop room text))

-- it wants nothing of the service, and another call is none
pub wants_none : {c : Call} {w : Question} (k : ℕ) → c ≡ Ask w → [] ≡ wanted_by (RequestCall c k)
unfolding is_question
wants_none k e = rw e

pub wants_call : (c : Call) {k : ℕ} → ((w : Question) → c ≡ Ask w → ⊥) → (WantedCall c k ∷ []) ≡ wanted_by (RequestCall c k)
unfolding is_question
wants_call (Enter s) h = refl
wants_call (Amend s) h = refl
wants_call (Strike k) h = refl
wants_call TakeBack h = refl
wants_call (Publish rule) h = refl
wants_call Write h = refl
wants_call (Ask w) h = absurd (h w refl)

-- ---- and its line
pub looks : {bs : Blocks} (room : ℕ) {lent : ℕ} {line days numbers text out : List ℕ} {q : RequestIn} {r : Looked} {days' numbers' out' : List ℕ}
    → length days ≡ 32768 → Parses line days q days' → lent ≡ min room 65536
    → LooksAt bs lent q (asked_from q days') days' numbers text out r numbers' out'
    → wanted_in r ≡ wanted_by q → Looks bs room line days numbers text out r days' numbers' out'
looks room {line = line} {days} {q = q} {days' = days'} e p is l w =
    let asks : asked_from q days' ≡ asked_of 32768 line = rw e at (parsed_asked line days q days' p) in
    let same : q ≡ request_of (asked_of 32768 line) = rw e at p.request in
    record { wanted = rw same at w; at = rw (is, asks, same) at l; kept = rw e at p.places }
