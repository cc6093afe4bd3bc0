-- What the wire is for: a request is served by a look, and by what is done where that tells what it wants; and whoever sends the requests, the answers are
-- those of the conversation. Assumes nothing.
use Rattle.basis.proofs.Prelude.{ℕ, List, ◌≡◌, refl, ◌∷◌, drop, arith}
use Rattle.service.{specs.{declared.Service.Service, Service.{Blocks, Given, Represents}}, proofs.Represented.represented}
use Rattle.requests.specs.{declared.Request.Request, Requests.asks_read}
use Rattle.conversations.specs.{declared.{Answered.Answered, Looked.TheVariants.{Done, Wants}, Wanted.Wanted}, Answering.{Answers, room_of, Served, asked_in, beside, Looks, Restarted}, Conversation.{Conv, Sent, opening, turn, turn_of, converse, converse_on}, History.{Spoken, none, then}}
use Rattle.model.specs.Model.{fresh}
use Rattle.replies.proofs.Sending.{sends_bytes}

-- a request's bytes: a look, and what is done where that tells what is wanted
module _ {bs : Blocks} {room : ℕ} {line days numbers text out days' seen put : List ℕ} (payload : List ℕ) where
  pub looked_served : {q : Request} {later place : ℕ} → Looks bs room line days numbers text out (Done q later place) days' seen put
      → (sv : Service) → Given sv bs → Served sv bs room line payload days numbers text out (beside sv later place) bs days' seen text put
  looked_served l sv g = record { answers = l.at.2 sv g payload; kept = l.kept }

  pub carried_served : {w : Wanted} {sv : Service} {r : Answered} {bs' : Blocks} {numbers' text' out' : List ℕ}
      → Looks bs room line days numbers text out (Wants w) days' seen put
      → Answers sv bs (room_of room) (asked_in w days') payload seen text put r bs' numbers' text' out'
      → Served sv bs room line payload days numbers text out r bs' days' numbers' text' out'
  carried_served l a = record { answers = rw (← l.at.0, l.at.1, l.at.2) at a; kept = l.kept }

-- A WHOLE CONVERSATION on a service, blocks and a room that stand for v has the answers of `converse` from v
pub spoken_converse : {sv : Service} {bs : Blocks} {room : ℕ} {qs : List Sent} {replies : List (List ℕ)} (v : Conv)
    → Represents sv bs v.state → room_of room ≡ v.room → Spoken sv bs room qs replies → replies ≡ converse v qs
unfolding converse
spoken_converse v s e none = refl
spoken_converse v s e (then {q = q} r days numbers text out bs' days' numbers' text' out' met more) =
    let k = (met (represented s)).answers.turned in
    let t = rw e at (k.taken v.state s) in
    rw (sends_bytes t.sends, spoken_converse (turn v q.line q.payload).next t.after (omega (arith, k.room, t.room)) more)

-- BEGUN FRESH: what `fresh` of the service ensures is enough
pub spoken_fresh : {sv : Service} {bs : Blocks} {qs : List Sent} {replies : List (List ℕ)} → Represents sv bs fresh
    → Spoken sv bs 65536 qs replies → replies ≡ converse opening qs
spoken_fresh s c = spoken_converse opening s refl c

-- BEGUN ON A TEXT of n bytes: what `restart` ensures is enough, and its answer comes first
pub spoken_begun : {bs : Blocks} {qs : List Sent} {replies : List (List ℕ)} (n : ℕ) (text out out' : List ℕ) (r : Answered)
    → Restarted (room_of 65536) n text out r bs out' → Spoken r.service bs r.room qs replies
    → (drop r.place out' ∷ replies) ≡ converse_on n text qs
unfolding turn_of
spoken_begun n text out out' r d c =
    let t = d.taken fresh in rw (sends_bytes t.sends, spoken_converse (turn_of (asks_read n) text opening).next t.after (omega (arith, t.room)) c)
