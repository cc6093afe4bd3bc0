-- What fields ask, as the program finds it: field by field, and where the line ends after the last or does not. Assumes nothing.
use Rattle.basis.proofs.Prelude.{◌∙◌, ◌≡◌, ◌<◌, ◌≤◌, ℕ, List, [], ◌∷◌, drop, length}
use Rattle.std.specs.Prelude.{Option, Some, None}
use Rattle.requests.{proofs.Names.{Found, answer_in, here, past_end, Demand, asking, ended, request_of, if_ended}, specs.declared.Request.{TheVariants.Malformed, Request}}

-- ---- what comes after the place i
module _ (q : Request) (s : List ℕ) (i : ℕ) where
  pub ended_more : i < length s → Malformed ≡ if_ended q (drop i s)
  ended_more h = rw (here s i h)

  pub ended_all : length s ≤ i → q ≡ if_ended q (drop i s)
  ended_all h = rw (past_end s i h)

-- after the last field
pub last : {q r : Request} (a : Demand) (rest : List ℕ) → r ≡ if_ended q rest → q ≡ request_of a → r ≡ request_of (ended a rest)
last a [] k e = k ∙ e
last a (b ∷ rest) k e = k

-- ---- a field f, as r answers it: one that can't be read asks nothing that has a form, and after a value what is asked by that is asked
module _ {A : Type 0} (line : List ℕ) {r : Option (A × ℕ)} {f : Found A} (k : A → List ℕ → Demand) (says : answer_in line r ≡ f) where
  pub unread : r ≡ None → Malformed ≡ request_of (asking f k)
  unread none = rw (← says, none)

  pub onto : {a : A} {i : ℕ} (q : Request) → r ≡ Some (a, i) → q ≡ request_of (k a (drop i line)) → q ≡ request_of (asking f k)
  onto q is asked = rw (← says, is) asked
