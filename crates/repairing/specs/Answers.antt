-- What repairing a text answers, and what it leaves in the two lists that it is lent. Assumes nothing.
use Rattle.std.specs.Prelude.{ℕ, ◌≡◌, Bool, ◌&&◌, cond, List, leb, eqb, length, Result, Ok, Err}
use Rattle.buffer.specs.Buffer.{over}
use Rattle.refusal.specs.Table.{accepted, short_buffer, malformed}
use Rattle.refusal.specs.Numbers.{number_of}
use Rattle.refusal.specs.declared.Refusal.{Refusal}
use Rattle.repairing.specs.declared.Repaired.{Repaired}
use Rattle.repairing.specs.declared.HostRepaired.{HostRepaired}
use Rattle.repairing.specs.Repair.{kept_of, repaired_text, remarks_of, places_of, displaced_in}

-- the text and the remarks fit lists of n and m places
unfoldable pub fitting : List ℕ → ℕ → ℕ → Bool
fitting t n m = leb (length (repaired_text t)) n && leb (length (places_of (remarks_of t))) m

-- what refuses it: 12 for a text above 65,536 bytes, then 11 where either list is too short
unfoldable pub repair_refusal : List ℕ → ℕ → ℕ → ℕ
repair_refusal t n m = cond (leb (length t) 65536) (cond (fitting t n m) accepted short_buffer) malformed

-- a refusal has line 0, and 0 for every length and count
abbrev pub repair_refused : ℕ → HostRepaired
repair_refused k = record { refusal = k; line = 0; length = 0; dropped = 0; displaced = 0 }

-- the length of the text, the number of dropped lines, and how many kept lines now stand after a line that followed them
abbrev pub repair_given : List ℕ → HostRepaired
repair_given t = record { refusal = accepted; line = 0; length = length (repaired_text t); dropped = length (remarks_of t); displaced = displaced_in (kept_of t) }

-- what a host is told of a repair
abbrev pub repaired_in : Result Repaired Refusal → HostRepaired
repaired_in (Ok r) = record { refusal = accepted; line = 0; length = r.length; dropped = r.dropped; displaced = r.displaced }
repaired_in (Err refusal) = repair_refused (number_of refusal)

-- one of the two
abbrev pub either : {A : Type 0} → List ℕ → ℕ → ℕ → A → (ℕ → A) → A
either t n m given refused = cond (eqb (repair_refusal t n m) accepted) given (refused (repair_refusal t n m))

-- the answer r, and what the two lists hold after: text and remarks in their first places, and later places as they were; where it is refused
-- every place is kept
pub record Repairs (t out remarks : List ℕ) (r : HostRepaired) (out' remarks' : List ℕ) : Type 0 where
  pub answer : r ≡ either t (length out) (length remarks) (repair_given t) repair_refused
  pub text : out' ≡ either t (length out) (length remarks) (over (repaired_text t) out) (λ _. out)
  pub said : remarks' ≡ either t (length out) (length remarks) (over (places_of (remarks_of t)) remarks) (λ _. remarks)
