-- What framing is for: in whatever pieces a stream arrives, its requests are those of the whole stream; what a host is told suffices to go on, and a frame
-- that the calls give is taken. Assumes nothing.
use Rattle.basis.proofs.Prelude.{◌≡◌, refl, ℕ, List, [], ◌++◌, ◌∷◌, ◌∙◌, drop, ◌≤◌, suc, zero, ◌||◌, true, ltb, eqb, arith, eq-eqb, le-leb, lt-ltb}
use Rattle.conversations.{specs.{Conversation.{Sent, Conv, opening, converse, converse_on}, declared.Answered.Answered, Answering.{room_of, Restarted}, History.Spoken}, proofs.Claims.{spoken_converse, spoken_fresh, spoken_begun}}
use Rattle.streams.specs.{Stream.{Partial, begun, Step, whole, part, feed, onward, cut_from, cut}, Advancing.{Progress, done, going, through, next, partial_of, part_of, Sound, ready, advanced_of}, declared.{Frame.Frame, Advanced.Advanced, Framed.TheVariants.Part}, History.{opened, Heard, request, more, ended}}
use mathlib.Core.List.{flatten}
use Rattle.model.specs.Model.{fresh}
use Rattle.service.specs.{declared.Service.Service, Service.{Blocks, Represents}}

by_step : {C : Type 0} (x : Step) → ((q : Sent) → x ≡ whole q → C) → ((p : Partial) → x ≡ part p → C) → C
by_step (whole q) f g = f q refl
by_step (part p) f g = g p refl

-- the requests of what is left after the next one, with further bytes at its end
unfoldable pub cut_after : Progress → List ℕ → List Sent
cut_after (done q s) t = q ∷ cut_from begun (s ++ t)
cut_after (going p) t = cut_from p t

-- the requests of a piece and what comes after it: those after its next request, or those that go on from the part that it leaves
pub cut_piece : (p : Partial) (s t : List ℕ) → cut_from p (s ++ t) ≡ cut_after (next p s) t
unfolding cut_from next cut_after onward through
cut_piece p [] t = refl
cut_piece p (b ∷ s) t = by_step (feed p b) (λ q e. rw e) (λ p' e. rw (e, cut_piece p' s t))

-- what has come, and further bytes after it
unfoldable pub go_on : Progress → List ℕ → Progress
go_on (done q s) t = done q (s ++ t)
go_on (going p) t = next p t

-- bytes, and others after them: the others go on from what the first make
pub next_append : (p : Partial) (s t : List ℕ) → next p (s ++ t) ≡ go_on (next p s) t
unfolding next go_on through
next_append p [] t = refl
next_append p (b ∷ s) t = by_step (feed p b) (λ q e. rw e) (λ p' e. rw (e, next_append p' s t))

-- THE PIECES DO NOT MATTER: what is heard of a stream in pieces are the requests of the whole stream
pub heard_cut : {f : Frame} {line payload arrived : List ℕ} {at : ℕ} {pieces : List (List ℕ)} {qs : List Sent}
    → Heard f line payload arrived at pieces qs → qs ≡ cut_from (partial_of f line payload) (drop at arrived ++ flatten pieces)
unfolding cut_from cut_after flatten part_of
heard_cut (request n m at' line' payload' line'' payload'' met rest) = rw (cut_piece, ← met.progress, heard_cut rest)
heard_cut (more f' line' payload' met rest) = rw (cut_piece, ← met.progress) (heard_cut rest)
heard_cut (ended f' line' payload' met) = rw (cut_piece, ← met.progress)

-- from the beginning of the stream
module _ {line payload piece : List ℕ} {pieces : List (List ℕ)} {qs : List Sent} (r : Heard opened line payload piece 0 pieces qs) where
  pub heard_stream : qs ≡ cut (flatten (piece ∷ pieces))
  unfolding flatten part_of
  heard_stream = heard_cut r

  -- THE ANSWERS TO A STREAM, in whatever pieces it arrives, on a service that stands for v: those of the conversation on its requests
  pub stream_converse : {sv : Service} {bs : Blocks} {room : ℕ} {replies : List (List ℕ)} (v : Conv) → Represents sv bs v.state
      → room_of room ≡ v.room → Spoken sv bs room qs replies → replies ≡ converse v (cut (flatten (piece ∷ pieces)))
  stream_converse v s e c = spoken_converse v s e c ∙ rw heard_stream

  -- begun fresh
  pub stream_fresh : {sv : Service} {bs : Blocks} {replies : List (List ℕ)} → Represents sv bs fresh → Spoken sv bs 65536 qs replies
      → replies ≡ converse opening (cut (flatten (piece ∷ pieces)))
  stream_fresh s c = spoken_fresh s c ∙ rw heard_stream

  -- begun on a text of n bytes, whose answer comes first
  pub stream_begun : {bs : Blocks} {replies : List (List ℕ)} (n : ℕ) (text out out' : List ℕ) (x : Answered) → Restarted (room_of 65536) n text out x bs out'
      → Spoken x.service bs x.room qs replies → (drop x.place out' ∷ replies) ≡ converse_on n text (cut (flatten (piece ∷ pieces)))
  stream_begun n text out out' x d c = spoken_begun n text out out' x d c ∙ rw heard_stream

-- the frame that a host goes on with, from what it is told
abbrev pub frame_in : Advanced → Frame
frame_in r = record { line = r.line; payload = r.payload; wanted = r.wanted }

-- A PART IS GONE ON WITH by its own frame
pub part_told : (f : Frame) (size : ℕ) → frame_in (advanced_of (Part f) size) ≡ f
part_told f size = refl

bare : (w m : ℕ) → (w ≡ 0 → m ≡ 0) → (ltb 0 w || eqb m 0) ≡ true
bare zero m e = eq-eqb m 0 (e refl)
bare (suc w) m e = rw (lt-ltb 0 (suc w) (omega arith))

-- A FRAME THAT THE CALLS GIVE IS TAKEN, with any place of what has arrived
pub sound_ready : (f : Frame) (size from : ℕ) → Sound f → from ≤ size → ready f size from ≡ true
sound_ready f size from s h = search (le-leb, bare)
