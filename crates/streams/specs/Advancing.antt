-- What the program holds of a request that has come in part, and the postcondition of `advance`. Assumes nothing.
use Rattle.std.specs.Prelude.{ℕ, zero, suc, ◌≤◌, ◌≡◌, Bool, ◌&&◌, ◌||◌, cond, List, [], ◌∷◌, leb, ltb, eqb, length, take, drop}
use Rattle.conversations.specs.Conversation.{Sent}
use Rattle.streams.specs.declared.Advanced.{Advanced}
use Rattle.streams.specs.declared.Frame.{Frame}
use Rattle.streams.specs.declared.Framed.{Framed}
use Rattle.streams.specs.declared.Framed.TheVariants.{Whole, Part}
use Rattle.streams.specs.Stream.{Partial, in_line, in_text, Step, whole, part, feed}

-- bytes taken up to the end of the next request, with those after it; or all of them, and a part of a request
pub data Progress : Type 0 where
  done : Sent → List ℕ → Progress
  going : Partial → Progress

unfoldable pub through : Step → List ℕ → (Partial → Progress) → Progress
through (whole q) s more = done q s
through (part p) s more = more p

-- the next request of bytes that go on from a part of one
unfoldable pub next : Partial → List ℕ → Progress
next p [] = going p
next p (b ∷ s) = through (feed p b) s (λ p'. next p' s)

-- a step, and what the bytes after it make of it
abbrev pub after : Step → List ℕ → Progress
after x s = through x s (λ p. next p s)

-- a part of a request, of whose text so many bytes are wanted; none while the line is not whole
unfoldable pub part_of : List ℕ → List ℕ → ℕ → Partial
part_of line text zero = in_line line
part_of line text (suc n) = in_text line text n

-- the part of a request that a frame stands for, with the lists that are lent for it
abbrev pub partial_of : Frame → List ℕ → List ℕ → Partial
partial_of f line payload = part_of (take f.line line) (take f.payload payload) f.wanted

-- a request in the first places of the lists
abbrev pub sent_of : ℕ → ℕ → List ℕ → List ℕ → Sent
sent_of n m line payload = record { line = take n line; payload = take m payload }

-- the bytes kept lie within the lists that are lent for them
pub record Fits (n m : ℕ) : Type 0 where
  pub line : n ≤ 65537
  pub payload : m ≤ 65536

-- a frame that the calls give: where nothing is wanted, nothing is kept of a text
pub record Sound (f : Frame) : Type 0 where
  pub fits : Fits f.line f.payload
  pub bare : f.wanted ≡ 0 → f.payload ≡ 0

-- what the program answers, with the lists as it leaves them
abbrev pub progress_of : Framed → List ℕ → List ℕ → List ℕ → Progress
progress_of (Whole n m at) arrived line payload = done (sent_of n m line payload) (drop at arrived)
progress_of (Part f) arrived line payload = going (partial_of f line payload)

abbrev pub Within : Framed → ℕ → Type 0
Within (Whole n m at) size = (Fits n m) × (at ≤ size)
Within (Part f) size = Sound f

-- the places from n on keep what they held
abbrev pub Kept : ℕ → List ℕ → List ℕ → Type 0
Kept n l l' = drop n l' ≡ drop n l

-- so many bytes of the line, and of the text
abbrev pub line_in : Framed → ℕ
line_in (Whole n m at) = n
line_in (Part f) = f.line

abbrev pub text_in : Framed → ℕ
text_in (Whole n m at) = m
text_in (Part f) = f.payload

-- THE POSTCONDITION of `advance`: the next request of the bytes that have arrived, from a place on; and in both lists the places past
-- what is kept of it are as they were. A frame may say anything: a list has no more bytes than places.
pub record Advances (f : Frame) (arrived : List ℕ) (from : ℕ) (line payload : List ℕ) (r : Framed) (line' payload' : List ℕ) : Type 0 where
  pub progress : progress_of r arrived line' payload' ≡ next (partial_of f line payload) (drop from arrived)
  pub within : Within r (length arrived)
  pub line_rest : Kept (line_in r) line line'
  pub text_rest : Kept (text_in r) payload payload'

-- ---- For a host

-- whether the calls give such a frame, and the place lies in what has arrived
abbrev pub ready : Frame → ℕ → ℕ → Bool
ready f size from = leb f.line 65537 && leb f.payload 65536 && (ltb 0 f.wanted || eqb f.payload 0) && leb from size

-- what a host is given: 1 for a whole request, 0 for a part of one
abbrev pub advanced_of : Framed → ℕ → Advanced
advanced_of (Whole n m at) size = record { outcome = 1; line = n; payload = m; wanted = 0; next = at }
advanced_of (Part f) size = record { outcome = 0; line = f.line; payload = f.payload; wanted = f.wanted; next = size }

-- 2 for a frame that no call gave, or a place that is not there
abbrev pub refused_frame : Advanced
refused_frame = record { outcome = 2; line = 0; payload = 0; wanted = 0; next = 0 }

-- the host is given what `advance` gives
pub record Reports (f : Frame) (arrived : List ℕ) (from : ℕ) (line payload : List ℕ) (r : Advanced) (line' payload' : List ℕ) : Type 0 where
  pub framed : Framed
  pub advances : Advances f arrived from line payload framed line' payload'
  pub result : r ≡ advanced_of framed (length arrived)

-- both lists are as they were
pub record Refuses (line payload : List ℕ) (r : Advanced) (line' payload' : List ℕ) : Type 0 where
  pub result : r ≡ refused_frame
  pub line_kept : line' ≡ line
  pub text_kept : payload' ≡ payload

abbrev pub HostAdvances : Frame → List ℕ → ℕ → List ℕ → List ℕ → Advanced → List ℕ → List ℕ → Type 0
HostAdvances f arrived from line payload r line' payload' =
    cond (ready f (length arrived) from) (Reports f arrived from line payload r line' payload') (Refuses line payload r line' payload')
