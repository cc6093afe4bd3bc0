-- What the answers of the readers say, and what the writers leave in the list that they are lent. Assumes nothing.
use Rattle.std.specs.Prelude.{ℕ, ◌-◌, ◌≡◌, Bool, ◌&&◌, cond, List, ◌++◌, leb, length, take, drop, Option, Some, None}
use Rattle.fields.specs.Fields.{Found, found, unreadable}

-- ---- Reading

-- the place of a text where what is left of it begins
abbrev pub place_of : List ℕ → List ℕ → ℕ
place_of text rest = length text - length rest

-- an answer, and what it says: the value with the text from the next place on, or that the field can't be read
abbrev pub answer_at : {A : Type 0} → List ℕ → Found A → Option (A × ℕ)
answer_at text (found v rest) = Some (v, place_of text rest)
answer_at text unreadable = None

abbrev pub answer_in : {A : Type 0} → List ℕ → Option (A × ℕ) → Found A
answer_in text (Some p) = found p.0 (drop p.1 text)
answer_in text None = unreadable

-- r is the answer of what is found in the text, and says that it is found
pub record Reads {A : Type 0} (text : List ℕ) (r : Option (A × ℕ)) (f : Found A) : Type 0 where
  pub answer : r ≡ answer_at text f
  pub says : answer_in text r ≡ f

-- ---- Writing. A text is put into the places before `at`, so that it ends there; `room` places before `at` are asked for.

-- the places that are asked for are there
abbrev pub roomy : ℕ → List ℕ → ℕ → Bool
roomy room entry at = leb room at && leb at (length entry)

-- the place where the text begins
abbrev pub put_at : ℕ → (List ℕ → List ℕ) → List ℕ → ℕ → ℕ
put_at room text entry at = cond (roomy room entry at) (place_of entry (text (drop at entry))) at

-- the places before, then the text put in front of what stood from `at` on; with too little room every place is kept
abbrev pub put_of : ℕ → (List ℕ → List ℕ) → List ℕ → ℕ → List ℕ
put_of room text entry at =
    cond (roomy room entry at) (take (place_of entry (text (drop at entry))) entry ++ text (drop at entry)) entry

pub record Puts (room : ℕ) (text : List ℕ → List ℕ) (entry : List ℕ) (at r : ℕ) (exit : List ℕ) : Type 0 where
  pub place : r ≡ put_at room text entry at
  pub places : exit ≡ put_of room text entry at
