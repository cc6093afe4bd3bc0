-- A request carried out on the service of a host's words is carried out on the words, and an edit made on the words is the request that asks for it.
-- Assumes nothing.
use Rattle.basis.proofs.Prelude.{◌∙◌, ◌≡◌, ap, refl, sym, ◌<◌, ◌≤◌, ℕ, List, Bool, false, true, leb, zero-le, le-leb, lt-leb, by_test, min, length, take, take-append-drop, length-take-le, arith}
use Rattle.std.specs.Int.{from_bool}
use Rattle.model.specs.{Model.State, Journal.journal, declared.Call.{Call, TheVariants.{Enter, Amend, Strike, TakeBack, Publish, Write, Ask}}}
use Rattle.requests.specs.{declared.Request.Request, Requests.asked_of}
use Rattle.service.{specs.{declared.{Service.Service, Stepped.Stepped}, Packed.{unpacked, Packs}, Service.{Blocks, Represents, Given, Changed, Changes}}, proofs.Editing.changes}
use Rattle.conversations.{specs.{declared.{Answered.Answered, Wanted.{Wanted, TheVariants.{Call as WantedCall, Read as WantedRead}}, Looked.{Looked, TheVariants.{Done, Wants}}}, Conversation.turn_of, Answering.{Taken, conv, room_of, Answers, asked_in, Looks}}, proofs.{Claims.looked_served, Turns.{call_turned, turn_call}}}
use Rattle.hosting.proofs.Host.{laid}
use Rattle.sharing.specs.{declared.Carried.Carried, Words.{word_of, word_in, power_of, changed_at, call_word}, Carrying.{events_of, held_at, Requested}, Clauses.{RequestedOf, wanted_word, Changing, EditsIn, EditTurn}}
use Rattle.sharing.proofs.Words.{power_only_reads, unkept, changed_journal, power_mid}
use Rattle.standing_words.specs.Edits.{EditedIn}
use Rattle.outcomes.specs.{declared.Outcome.Outcome, Outcomes.told_of}
use Rattle.replies.specs.Sending.{Sends, reply_text}

pub wanted_word_lem : (x : Wanted) (days : List ℕ) → wanted_word x ≡ word_of (asked_in x days)
wanted_word_lem (WantedCall c k) days = refl
wanted_word_lem (WantedRead n) days = refl

-- ---- What is wanted of the service of the words

pub unpacked_given : (words : List ℕ) {sv : Service} {bs : Blocks} → sv ≡ unpacked words → Given (unpacked words) bs → Given sv bs
unpacked_given words e g = rw e g

module _ (x : Wanted) (words : List ℕ) {bs bs' : Blocks} (room : ℕ) {word power changed : ℕ} {payload : List ℕ} (days : List ℕ) {numbers text out numbers' text' out' : List ℕ}
    {sv : Service} {a : Answered} (flag : Bool) (asked : sv ≡ unpacked words) (answers : Answers sv bs (room_of room) (asked_in x days) payload numbers text out a bs' numbers' text' out')
    (w : word ≡ wanted_word x) (is : power ≡ power_of word) (bit : changed ≡ from_bool flag) (told : from_bool flag ≡ changed_at power out' a.place) where
  named : word ≡ word_of (asked_in x days)
  named = w ∙ wanted_word_lem x days

  changed_is : changed ≡ changed_at (power_of (word_of (asked_in x days))) out' a.place
  changed_is = bit ∙ told ∙ rw (is, named)

  -- nothing was changed: the state is the one before, and the words stay
  pub change_none : Given (unpacked words) bs → flag ≡ false
      → Changing (asked_in x days) words bs room payload numbers text out (record { word = word; changed = changed; room = a.room; place = a.place }) words bs' numbers' text' out'
  change_none g e = let none : changed ≡ 0 = bit ∙ rw e in let b = rw asked at answers in let t = b.turned in let q = asked_in x days in
      let taken : (m : State) → Represents (unpacked words) bs m → Taken (turn_of q payload (conv m (room_of room))) out (record { service = unpacked words; room = a.room; place = a.place }) bs' out' =
      λ m rep. let k = t.taken m rep in
      let same : (turn_of q payload (conv m (room_of room))).next.state ≡ m = unkept m payload (room_of room) q (sym (changed_journal m payload (room_of room) q k.sends) ∙ sym changed_is ∙ none) in
      let after = rw same at k.after in record { sends = k.sends; after = rw same (search); room = k.room } in
      search (named, changed_is, taken) depth 8

  -- else the words are those of the service after it
  pub change_packed : (words' : List ℕ) → Packs a.service words' → flag ≡ true
      → Changing (asked_in x days) words bs room payload numbers text out (record { word = word; changed = changed; room = a.room; place = a.place }) words' bs' numbers' text' out'
  change_packed words' p e = record {
    answers = rw p.back (rw asked at answers);
    laid = λ _. laid words' a.service p;
    kept = λ none. let zero : changed ≡ 0 = changed_is ∙ (unfold changed_at in rw none) in let one : changed ≡ 1 = bit ∙ rw e in absurd (omega arith);
    word = named;
    changed = changed_is;
  }

-- ---- By whether its word does no more than is allowed

of_power : (x : Wanted) (days : List ℕ) {word power : ℕ} → word ≡ wanted_word x → power ≡ power_of word → power_of (word_of (asked_in x days)) ≡ power
of_power x days w is = rw (← wanted_word_lem x days, ← w) (sym is)

module _ (x : Wanted) {word power : ℕ} {words : List ℕ} {bs : Blocks} {room allowed : ℕ} {payload : List ℕ} (days : List ℕ) {numbers text out : List ℕ} {r : Carried}
    (w : word ≡ wanted_word x) (is : power ≡ power_of word) where
  pub changed_requested : {words' : List ℕ} {bs' : Blocks} {numbers' text' out' : List ℕ} → power ≤ allowed → Changing (asked_in x days) words bs room payload numbers text out r words' bs' numbers' text' out'
      → RequestedOf (asked_in x days) words bs room allowed payload numbers text out r words' bs' numbers' text' out'
  changed_requested h c = record { done = rw (of_power x days w is, le-leb power allowed h) c }

  pub edits_requested : {words' out' : List ℕ} {c : Call} {k : ℕ} → x ≡ WantedCall c k → power ≤ allowed → Given (unpacked words) bs
      → ((k : ℕ) → EditsIn (WantedCall c k) words room numbers text out r words' out')
      → RequestedOf (asked_in x days) words bs room allowed payload numbers text out r words' bs numbers text out'
  edits_requested {k = k} e h g edited = changed_requested h ((rw (← e) at (edited k)).edits bs payload days g)

  pub held_requested : allowed < power → r ≡ held_at word room → RequestedOf (asked_in x days) words bs room allowed payload numbers text out r words bs numbers text out
  held_requested h told = record { done = rw (of_power x days w is, lt-leb power allowed h) (let named : r ≡ held_at (word_of (asked_in x days)) room = told ∙ rw (w, wanted_word_lem x days) in search) }

-- ---- A request's line

-- what a look answers is carried out
pub done_requested : (words : List ℕ) {bs : Blocks} {room : ℕ} (allowed : ℕ) (line payload days : List ℕ) {numbers text out days' numbers' out' : List ℕ} {x : Looked} {q : Request} {later place word : ℕ}
    → Looks bs room line days numbers text out x days' numbers' out' → x ≡ Done q later place → Given (unpacked words) bs → word ≡ word_in q
    → Requested words bs room allowed line payload days numbers text out (record { word = word; changed = 0; room = later; place = place }) words bs days' numbers' text out'
unfolding changed_at
done_requested words {bs} {room} allowed line payload days {word = word} l e g w =
    let d = rw e at l in let s = looked_served payload d (unpacked words) g in
    let none : power_of (word_of (asked_of 32768 line)) ≡ 0 = power_only_reads (asked_of 32768 line) d.at.1 in
    let named : word ≡ word_of (asked_of 32768 line) = w ∙ ap word_in d.at.0 in
    let changed : (m : State) → Represents (unpacked words) bs m → 0 ≡ length (journal m (events_of (asked_of 32768 line) payload (room_of room))) =
    λ m rep. rw none at (changed_journal m payload (room_of room) (asked_of 32768 line) (s.answers.turned.taken m rep).sends) in
    rw (none, le-leb 0 allowed zero-le) (search changed)

-- and what is wanted after it
pub wanted_requested : (words : List ℕ) {words' : List ℕ} {bs bs' : Blocks} {room : ℕ} (allowed : ℕ) (line payload : List ℕ) {days numbers text out days' seen put numbers' text' out' : List ℕ} {x : Looked} {w : Wanted} {r : Carried}
    → Looks bs room line days numbers text out x days' seen put → x ≡ Wants w → RequestedOf (asked_in w days') words bs room allowed payload seen text put r words' bs' numbers' text' out'
    → Requested words bs room allowed line payload days numbers text out r words' bs' days' numbers' text' out'
wanted_requested words {bs = bs} {room = room} allowed line payload {r = r} e is c =
    let l = rw is at e in let k = rw (← l.at.0, l.at.1, l.at.2) at c.done in by_test (leb (power_of (word_of (asked_of 32768 line))) allowed)
    (λ t. let d = rw t at k in
    let changed : (m : State) → Represents (unpacked words) bs m → r.changed ≡ length (journal m (events_of (asked_of 32768 line) payload (room_of room))) =
    λ m rep. d.changed ∙ changed_journal m payload (room_of room) (asked_of 32768 line) (d.answers.turned.taken m rep).sends in rw t (search changed))
    (λ t. let d = rw t at k in rw t (search))

-- the first places of a list are as many as are lent
pub lent : (n : ℕ) (l : List ℕ) → n ≤ length l → n ≡ length (take n l)
lent n l h = sym (length-take-le n l h)

-- the words below 20 are those of edits and of a take back
edit_changed : {sv : Service} {r : Stepped} (c : Call) → call_word c < 20 → Changes sv c r → Changed sv c r
edit_changed (Enter s) h d = d
edit_changed (Amend s) h d = d
edit_changed (Strike k) h d = d
edit_changed TakeBack h d = d
edit_changed (Publish rule) h d = absurd (omega (arith, h))
edit_changed Write h d = absurd (omega (arith, h))
edit_changed (Ask w) h d = absurd (omega (arith, h))

pub edit_turned : {words words' : List ℕ} (c : Call) {n : ℕ} {o : Outcome} (room : ℕ) (numbers text : List ℕ) {out out' : List ℕ} {place : ℕ} → call_word c < 20 → EditedIn c words n words' → o ≡ told_of n
    → room ≤ 65536 → room ≤ length numbers → room ≤ length text → Sends (reply_text c o (take room numbers) (take room text)) out place out'
    → EditTurn c words room numbers text out place words' out'
edit_turned {words} c room numbers text word e is top few short s = record {
  answers = λ bs ds payload g. let met = (edit_changed c word (changes (unpacked words) c _ e.does is)).met bs ds (take room numbers) (take room text) g in
      turn_call (call_turned g (top, length-take-le room numbers few, length-take-le room text short) met s) (sym (take-append-drop room numbers)) (sym (take-append-drop room text));
  laid = e.laid;
}

-- ---- An edit that is wanted

-- a call's word is none of a line's of no form, of a room's or a reading's
call_word_ge : (c : Call) → 16 ≤ call_word c
call_word_ge (Enter s) = omega arith
call_word_ge (Amend s) = omega arith
call_word_ge (Strike k) = omega arith
call_word_ge TakeBack = omega arith
call_word_ge (Publish rule) = omega arith
call_word_ge Write = omega arith
call_word_ge (Ask w) = omega arith

-- it is carried out by its turn, with the room that it has
pub edit_carried : {words words' numbers text out out' : List ℕ} (c : Call) {word changed : ℕ} (flag : Bool) (room : ℕ) {least place : ℕ} → word ≡ call_word c → word < 20
    → least ≡ min room 65536 → changed ≡ from_bool flag → from_bool flag ≡ changed_at 1 out' place → EditTurn c words least numbers text out place words' out'
    → (k : ℕ) → EditsIn (WantedCall c k) words room numbers text out (record { word = word; changed = changed; room = least; place = place }) words' out'
edit_carried c {word} flag room w high is bit told turn k =
    let low = call_word_ge c in let one : power_of (call_word c) ≡ 1 = rw (← w) (sym (power_mid word (omega arith) (omega arith))) in record {
      edits = λ bs payload days g. record {
        answers = rw (← is) (turn.answers bs (take k days) payload g);
        laid = turn.laid;
        kept = λ none. absurd (omega (arith, one));
        word = w;
        changed = rw one (bit ∙ told);
      };
    }
