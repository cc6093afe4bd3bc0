-- What the host's request is for: whoever sends them, in however many conversations, the answers are the account's, and a journal of
-- those that changed the state suffices. Assumes nothing.
use Rattle.basis.proofs.Prelude.{◌≡◌, refl, ℕ, List, [], ◌++◌, ◌∷◌}
use Rattle.model.{specs.{Model.State, Journal.{Event, next, left, journal}}, proofs.Journal.journal_left}
use Rattle.requests.specs.Requests.{asked_of}
use Rattle.service.{specs.{Packed.unpacked, Service.{Blocks, Represents}}, proofs.Represented.represented}
use Rattle.conversations.specs.Answering.{room_of}
use Rattle.replies.proofs.Sending.{sends_bytes}
use Rattle.hosting.specs.History.{Opens}
use Rattle.sharing.specs.{History.{Posted, events_in, all_events, replies, Shared, none, carried, held}}
use Rattle.sharing.proofs.Words.{turn_left}

left_append : (m : State) (es fs : List Event) → left m (es ++ fs) ≡ left (left m es) fs
unfolding left
left_append m [] fs = refl
left_append m (e ∷ es) fs = left_append (next m e) es fs

-- what requests are answered, and what words and blocks they leave
shared_led : {words words' : List ℕ} {bs bs' : Blocks} {ps : List Posted} {rs : List (List ℕ)} (m : State) → Represents (unpacked words) bs m
    → Shared words bs ps rs words' bs' → (rs ≡ replies m ps) × Represents (unpacked words') bs' (left m (all_events ps))
unfolding replies all_events left
shared_led m s none = (refl, s)
shared_led m s (carried {p = p} {ps} allowed r days numbers text out words' bs' days' numbers' text' out' within met more) =
    let c = rw within at (met (represented s)) in let taken = c.served.answers.turned.taken m s in
    let led = shared_led (left m (events_in p)) (rw (turn_left m p.payload (room_of p.room) (asked_of 32768 p.line)) at taken.after) more in
    (rw (sends_bytes taken.sends, led.0), rw (left_append m (events_in p) (all_events ps)) led.1)
shared_led m s (held p allowed r days numbers text out words' bs' days' numbers' text' out' beyond met more) =
    let h = rw beyond at (met (represented s)) in
    shared_led m (rw (h.words_kept, h.blocks_kept) s) more

module _ {words words' : List ℕ} {bs bs' : Blocks} {ps : List Posted} {rs : List (List ℕ)} (m : State) where
  -- THE ANSWERS are the account's, whichever conversation each request belongs to
  pub shared_replies : Represents (unpacked words) bs m → Shared words bs ps rs words' bs' → rs ≡ replies m ps
  shared_replies s c = (shared_led m s c).0

  -- THE WORDS AND BLOCKS AFTER THEM stand for the state after their events
  pub shared_after : Represents (unpacked words) bs m → Shared words bs ps rs words' bs' → Represents (unpacked words') bs' (left m (all_events ps))
  shared_after s c = (shared_led m s c).1

  -- A JOURNAL of those that changed the state suffices: it leads to the state for which the words and blocks stand
  pub shared_journal : Represents (unpacked words) bs m → Shared words bs ps rs words' bs' → Represents (unpacked words') bs' (left m (journal m (all_events ps)))
  shared_journal s c = rw (journal_left m (all_events ps)) (shared_after s c)

  -- BEGUN BY `phayaklit_fresh` OR `phayaklit_read`: what they ensure of the words and the blocks is enough
  pub shared_opened : Opens words bs m → Shared words bs ps rs words' bs' → rs ≡ replies m ps
  shared_opened o c = shared_replies o.0 c
