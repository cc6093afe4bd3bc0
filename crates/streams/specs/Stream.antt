-- How the bytes that are sent to `serve` are cut into requests (its protocol). Assumes nothing.
use Rattle.std.specs.Prelude.{ℕ, zero, suc, ◌≡◌, false, cond, List, [], ◌∷◌, ◌++◌, eqb, take}
use Rattle.requests.specs.Requests.{asked_of, following}
use Rattle.conversations.specs.Conversation.{Sent}

-- a request that has come in part: these bytes of its line, and not its LF; or its line, these bytes after it, and n + 1 still to come
pub data Partial : Type 0 where
  in_line : List ℕ → Partial
  in_text : List ℕ → List ℕ → ℕ → Partial

-- nothing of a request has come
abbrev pub begun : Partial
begun = in_line []

-- what the bytes so far make: a whole request, or a part of one
pub data Step : Type 0 where
  whole : Sent → Step
  part : Partial → Step

-- the byte is put after the others, where these are not as many yet as are kept
unfoldable pub kept : ℕ → List ℕ → ℕ → List ℕ
kept most s b = take most (s ++ b ∷ [])

-- how many bytes follow a line: those of the text that it asks to read
unfoldable pub wants : List ℕ → ℕ
wants line = following (asked_of 32768 line)

-- a line that is whole, with the bytes after it, of which n are still to come
unfoldable pub settled : List ℕ → List ℕ → ℕ → Step
settled line text zero = whole (record { line = line; payload = text })
settled line text (suc n) = part (in_text line text n)

-- a line that its last byte may end: LF
unfoldable pub line_fed : List ℕ → ℕ → Step
line_fed line b = cond (eqb b 10) (settled line [] (wants line)) (part (in_line line))

-- ONE BYTE MORE. Of a line 65,537 bytes are kept, one more than a request has, and of a text 65,536: what is beyond is passed over
unfoldable pub feed : Partial → ℕ → Step
feed (in_line line) b = line_fed (kept 65537 line b) b
feed (in_text line text n) b = settled line (kept 65536 text b) n

-- a whole request is followed by those of the bytes after it
unfoldable pub onward : Step → (Partial → List Sent) → List Sent
onward (whole q) more = q ∷ more begun
onward (part p) more = more p

-- THE REQUESTS of bytes that go on from a part of a request. One that is not whole at the end is not among them.
unfoldable pub cut_from : Partial → List ℕ → List Sent
cut_from p [] = []
cut_from p (b ∷ s) = onward (feed p b) (λ p'. cut_from p' s)

-- the requests of a whole stream
abbrev pub cut : List ℕ → List Sent
cut = cut_from begun

-- ---- For its laws

-- bytes that are none of them LF
abbrev pub Plain : List ℕ → Type 0
Plain [] = Unit
Plain (b ∷ s) = (eqb b 10 ≡ false) × Plain s
