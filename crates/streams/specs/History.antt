-- Pieces of a stream taken one after another, by whatever code. Assumes nothing.
use Rattle.std.specs.Prelude.{ℕ, List, [], ◌∷◌}
use Rattle.conversations.specs.Conversation.{Sent}
use Rattle.streams.specs.declared.Frame.{Frame}
use Rattle.streams.specs.declared.Framed.TheVariants.{Whole, Part}
use Rattle.streams.specs.Advancing.{sent_of, Advances}

-- the frame of a request of which nothing has come
abbrev pub opened : Frame
opened = record { line = 0; payload = 0; wanted = 0 }

-- A frame with its two lists, a piece that has arrived and is taken up to a place, and the pieces that arrive after it: they give
-- these requests. Of each step no more is known than the contract of `advance`: what it ensures. After a request
-- the frame is opened anew, and the lists may hold anything. After a part of one its frame and lists go on with the next piece.
pub data Heard : Frame → List ℕ → List ℕ → List ℕ → ℕ → List (List ℕ) → List Sent → Type 0 where
  request : {f : Frame} {line payload arrived : List ℕ} {at : ℕ} {pieces : List (List ℕ)} {qs : List Sent}
      (n m at' : ℕ) (line' payload' line'' payload'' : List ℕ)
      → Advances f arrived at line payload (Whole n m at') line' payload'
      → Heard opened line'' payload'' arrived at' pieces qs
      → Heard f line payload arrived at pieces (sent_of n m line' payload' ∷ qs)
  more : {f : Frame} {line payload arrived : List ℕ} {at : ℕ} {piece : List ℕ} {pieces : List (List ℕ)} {qs : List Sent}
      (f' : Frame) (line' payload' : List ℕ)
      → Advances f arrived at line payload (Part f') line' payload'
      → Heard f' line' payload' piece 0 pieces qs
      → Heard f line payload arrived at (piece ∷ pieces) qs
  ended : {f : Frame} {line payload arrived : List ℕ} {at : ℕ} (f' : Frame) (line' payload' : List ℕ)
      → Advances f arrived at line payload (Part f') line' payload'
      → Heard f line payload arrived at [] []
