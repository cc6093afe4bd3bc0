-- Where the builder answers true, what it leaves is the block of its rows; and row after row is seen to have a number of its own. Assumes
-- nothing.
use Rattle.stabbing_cases.proofs.Names.{◌∙◌, ◌≡◌, refl, sym, ◌+◌, ◌<◌, ◌≤◌, suc, zero-le, ℕ, List, Bool, true, false, leb, get_or, length, take, length-take-le, arith, leb-true, both, by_eq, clash, rules}
use Rattle.stabbing.{specs.Index.{rows_ok, rows, numbers, mark_in, Block, Built}, proofs.Block.{block_is, fs_rows, block_holds}}
use Rattle.stabbing_index.specs.Build.{publishable, Builds}

pub block : {number first last : List ℕ} {n : ℕ} {entry exit : List ℕ} {r : Bool} → Builds number first last n entry r exit → r ≡ true
    → length number ≡ 1024 → length first ≡ 1024 → Block exit
block {number} {first} {last} {n} {entry} b t numbers firsts =
    let p : publishable first last n ≡ true = sym b.answer ∙ t in
    let h = both (leb n 1024) (rows_ok (take n first) (take n last)) p in
    let few : n ≤ 1024 = leb-true n 1024 h.0 in
    let ns : length (take n number) ≡ n = length-take-le n number (omega arith) in
    let fs : length (take n first) ≡ n = length-take-le n first (omega arith) in
    rw (b.block, p) (block_is (take n number) (take n first) (take n last) (omega arith) h.1 (ns ∙ sym fs))

pub unbuilt : {ix : List ℕ} → false ≡ true → Built ix
unbuilt e = absurd (clash e refl)

-- the numbers of the first k rows lead to them
pub record Owning (ix : List ℕ) (k : ℕ) : Type 0 where
  pub within : k ≤ rows ix
  pub leads : (p : ℕ) → p < k → mark_in ix (get_or (numbers ix) p 0) ≡ suc p

pub none : {ix : List ℕ} → Owning ix 0
none = record { within = zero-le; leads = λ p h. absurd (omega arith) }

-- one row more
pub more : {ix : List ℕ} {k m : ℕ} → Block ix → Owning ix k → k < rows ix → m ≡ mark_in ix (get_or ix k 0) → m ≡ k + 1 → Owning ix (k + 1)
more {ix} {k} b o h e z = let leads : (p : ℕ) → p < k + 1 → mark_in ix (get_or (numbers ix) p 0) ≡ suc p = λ p g. by_eq p k (omega arith)
    (λ y. rw (y, ← (block_holds ix b).numbers k (omega (arith, fs_rows ix b)), ← e) (z ∙ omega arith)) (o.leads p) in search arith

pub all : {ix : List ℕ} {k n : ℕ} → Owning ix k → n ≤ k → Block ix → n ≡ rows ix → Built ix
all o h b count = record { block = b; own = λ p g. o.leads p (omega arith) }

pub ruleset owning = (none, all, unbuilt, rules)
