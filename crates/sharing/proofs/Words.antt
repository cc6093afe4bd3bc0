-- What a request's word may do is what its event does. Assumes nothing.
use Rattle.basis.proofs.Prelude.{◌∙◌, ◌≡◌, ap, refl, sym, ◌-◌, ◌<◌, ◌≤◌, ℕ, ◌≢◌, List, ◌∷◌, Bool, cond, false, false≢true, true, eqb, ltb, get_or, length, length-append, take, get_or_at, length-take-le, take_all, arith, le-ltb, lt-ltb, ne_eqb, by_test}
use Rattle.refusal.specs.Table.{accepted}
use Rattle.fields.specs.Fields.{is_at}
use Rattle.model.{specs.{declared.{Call.{Call, TheVariants.{Enter, Amend, Strike, TakeBack, Publish, Write, Ask}}}, Model.{State, Answer, step}, Journal.{reads, left, journal}}, proofs.Journal.journal_left}
use Rattle.requests.specs.Requests.{Demand, asks_call, asks_room, asks_read, malformed}
use Rattle.replies.specs.{Replies.{ok_text, refused_text, shape_of, shape_text, call_text}, Sending.Sends}
use Rattle.conversations.specs.{Conversation.{turn_of, call_of}, Answering.{conv, only_reads}}
use Rattle.sharing.specs.{Words.{call_word, word_of, power_of, changed_at}, Carrying.events_of}

-- ---- What a word may do

pub power_mid : (w : ℕ) → 16 ≤ w → w < 32 → 1 ≡ power_of w
power_mid w low high = unfold power_of in rw (ne_eqb w 2 (λ e. omega (arith, e)), le-ltb w 16 low, lt-ltb w 32 high)

pub power_high : (w : ℕ) → 32 ≤ w → 0 ≡ power_of w
power_high w high = unfold power_of in rw (ne_eqb w 2 (λ e. omega (arith, e)), le-ltb w 16 (omega arith), le-ltb w 32 high)

-- and whether it did, by the first byte of the answer
module _ (p : ℕ) (out : List ℕ) (place : ℕ) where
  pub changed_yes : {b : Bool} → p ≢ 0 → p ≢ 2 → b ≡ is_at out place 111 → b ≡ true → 1 ≡ changed_at p out place
  changed_yes f g e t = unfold changed_at in rw (ne_eqb p 0 f, ne_eqb p 2 g, sym e ∙ t)

  pub changed_no : {b : Bool} → p ≢ 0 → p ≢ 2 → b ≡ is_at out place 111 → b ≡ false → 0 ≡ changed_at p out place
  changed_no f g e t = unfold changed_at in rw (ne_eqb p 0 f, ne_eqb p 2 g, sym e ∙ t)

-- ---- Calls

-- a call's word changes the state unless the call only reads; one that does not, accepted, is answered `ok`
call_acts : (c : Call) → (power_of (call_word c) ≡ cond (reads c) 0 1) × ((a : Answer) → reads c ≡ false → shape_text (shape_of c) a ≡ ok_text)
unfolding power_of shape_text
call_acts (Enter s) = (refl, λ a e. refl)
call_acts (Amend s) = (refl, λ a e. refl)
call_acts (Strike k) = (refl, λ a e. refl)
call_acts TakeBack = (refl, λ a e. refl)
call_acts (Publish rule) = (refl, λ a e. refl)
call_acts Write = (refl, λ a e. absurd (false≢true (sym e)))
call_acts (Ask w) = (sym (power_high (call_word (Ask w)) (omega arith)), λ a e. absurd (false≢true (sym e)))

-- a request's that only reads leaves it
pub power_only_reads : (q : Demand) → only_reads q ≡ true → power_of (word_of q) ≡ 0
unfolding power_of
power_only_reads (asks_call c ds) e = (call_acts c).0 ∙ rw e
power_only_reads (asks_room n) e = refl
power_only_reads (asks_read n) e = absurd (false≢true e)
power_only_reads malformed e = refl

-- ---- Requests

module _ (m : State) (payload : List ℕ) (room : ℕ) where
  -- the state after a request is that after its event
  pub turn_left : (q : Demand) → (turn_of q payload (conv m room)).next.state ≡ left m (events_of q payload room)
  unfolding turn_of left
  turn_left (asks_call c ds) = refl
  turn_left (asks_room n) = refl
  turn_left (asks_read n) = refl
  turn_left malformed = refl

  -- of which a journal keeps nothing, the state is as it was
  pub unkept : (q : Demand) → length (journal m (events_of q payload room)) ≡ 0 → (turn_of q payload (conv m room)).next.state ≡ m
  unkept q none = unfold left in turn_left q ∙ sym (journal_left m (events_of q payload room)) ∙ ap (left m) (sym (take_all 0 (journal m (events_of q payload room)) (omega (arith, none))))

-- ---- The first byte of an answer

pub first_byte : {out out' t : List ℕ} {place : ℕ} (b x : ℕ) → Sends (b ∷ t) out place out' → is_at out' place x ≡ eqb b x
first_byte {out} {out'} {t} {place} b x s =
    let before : List ℕ = take (length out - length (b ∷ t)) out in
    let sized : length before ≡ place = length-take-le (length out - length (b ∷ t)) out (omega arith) ∙ sym s.place in
    let inside : ltb place (length out') ≡ true = lt-ltb place (length out') (omega (arith, sized, ap length s.places, length-append before (b ∷ t))) in
    let byte : get_or out' place 0 ≡ b = rw s.places (get_or_at before b t 0 place sized) in
    rw (inside, byte)

-- WHETHER IT CHANGED THE STATE, by its first byte, is whether a journal keeps it
module _ (m : State) (payload : List ℕ) (room : ℕ) {out out' : List ℕ} {place : ℕ} where
  changed_call : (c : Call) (ds : List ℕ) → reads c ≡ false → Sends (call_text c (step m (call_of c ds room)).answer) out place out'
      → is_at out' place 111 ≡ eqb (step m (call_of c ds room)).answer.refusal accepted
  changed_call c ds e s = unfold call_text refused_text in by_test (eqb (step m (call_of c ds room)).answer.refusal accepted)
      (λ f. first_byte 111 111 (rw (f, (call_acts c).1 (step m (call_of c ds room)).answer e) at s) ∙ sym f)
      (λ f. first_byte 114 111 (rw f at s) ∙ sym f)

  pub changed_journal : (q : Demand) → Sends (turn_of q payload (conv m room)).reply out place out' → changed_at (power_of (word_of q)) out' place ≡ length (journal m (events_of q payload room))
  unfolding turn_of journal changed_at power_of
  changed_journal (asks_call c ds) s = by_test (reads c)
      (λ e. rw ((call_acts c).0, e))
      (λ e. rw ((call_acts c).0, e, changed_call c ds e s) (by_test (eqb (step m (call_of c ds room)).answer.refusal accepted) (λ f. rw f) (λ f. rw f)))
  changed_journal (asks_room n) s = refl
  changed_journal (asks_read n) s = refl
  changed_journal malformed s = refl
