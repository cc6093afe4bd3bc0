-- Going down a bucket to a number: the steps of `find`, apart from the code. Assumes nothing.
use Rattle.basis.proofs.Prelude.{◌∙◌, ◌≡◌, ap, refl, sym, ◌%◌, ◌+◌, ◌-◌, ◌<◌, ◌≤◌, suc, ℕ, List, Bool, ◌≢◌, eqb, get_or, length, arith, eq-eqb, eqb-true, ne_eqb}
use Rattle.stabbing.{specs.{Tree.below, Index.{bucket_count, bucket_table, lower_column, bucket_of, in_bucket, named, numbers, firsts, mark_in, rows, Block}}, proofs.{Marks.{Below, below_is, below_hit, below_miss, below_skip}, Block.{block_holds, fs_rows, bucket_word, lower_word_is}}}

-- the row p has the number x
abbrev sought : List ℕ → ℕ → ℕ → Bool
sought ns x p = eqb (get_or ns p 0) x

latest : (ns : List ℕ) (x k : ℕ) → Below (λ p. eqb (bucket_of (get_or ns p 0)) (bucket_of x)) k (in_bucket ns (bucket_of x) k)
unfolding in_bucket
latest ns x k = below_is _ k

-- the search has come to the mark m: what it seeks is at or below it, in the bucket of x
pub record Searching (ix : List ℕ) (x m : ℕ) : Type 0 where
  pub block : Block ix
  pub within : m ≤ rows ix
  pub is : mark_in ix x ≡ below (sought (numbers ix) x) m
  pub bucket : (p : ℕ) → m ≡ suc p → bucket_of (get_or (numbers ix) p 0) ≡ bucket_of x

module _ {ix : List ℕ} {x : ℕ} where
  -- at the latest row of the bucket below k, where all that is sought lies below k: the rows with a number are among those of its bucket
  at_latest : Block ix → (k : ℕ) → k ≤ rows ix → mark_in ix x ≡ below (sought (numbers ix) x) k → {m : ℕ} → m ≡ in_bucket (numbers ix) (bucket_of x) k → Searching ix x m
  at_latest b k h e {m} z = let l = latest (numbers ix) x k in
      let is : mark_in ix x ≡ below (sought (numbers ix) x) m
      = e ∙ rw z (below_skip (sought (numbers ix) x) _ k l.within (λ p g h e. l.miss p g h (eq-eqb _ _ (ap bucket_of (eqb-true _ x e))))) in
      let bucket : (p : ℕ) → m ≡ suc p → bucket_of (get_or (numbers ix) p 0) ≡ bucket_of x = λ p y. eqb-true _ _ (l.hit p (sym z ∙ y)) in search arith

  pub begins : Block ix → {i m : ℕ} → i ≡ x → m ≡ get_or ix (i % bucket_count + bucket_table) 0 → Searching ix x m
  unfolding named
  begins b e z = at_latest b (length (firsts ix)) (omega (arith, fs_rows ix b)) refl
      (z ∙ rw e (bucket_word ix b (bucket_of x) (omega arith)))

  module _ {m : ℕ} (s : Searching ix x m) where
    pub ends : m ≤ 0 → m ≡ mark_in ix x
    ends h = unfold below in let z : m ≡ 0 = omega arith in z ∙ sym (s.is ∙ rw z)

    module _ (lo : 0 < m) where
      row : m ≡ suc (m - 1)
      row = omega arith

      number_is : get_or ix (m - 1) 0 ≡ get_or (numbers ix) (m - 1) 0
      number_is = (block_holds ix s.block).numbers (m - 1) (omega (arith, s.within, fs_rows ix s.block))

      pub found : get_or ix (m - 1) 0 ≡ x → m ≡ mark_in ix x
      found e = sym (s.is ∙ ap (below (sought (numbers ix) x)) row ∙ below_hit (sought (numbers ix) x) (m - 1) (eq-eqb _ _ (sym number_is ∙ e)) ∙ sym row)

      -- the mark of the row before, n
      module _ {n : ℕ} (z : n ≡ get_or ix (m - 1 + lower_column) 0) where
        lower_is : n ≡ in_bucket (numbers ix) (bucket_of x) (m - 1)
        lower_is = z ∙ lower_word_is ix s.block (m - 1) (omega (arith, s.within, fs_rows ix s.block)) ∙ ap (λ (b : ℕ). in_bucket (numbers ix) b (m - 1)) (s.bucket (m - 1) row)

        pub falls : n < m
        falls = omega (arith, lower_is, (latest (numbers ix) x (m - 1)).within)

        pub goes_on : get_or ix (m - 1) 0 ≢ x → Searching ix x n
        goes_on e = at_latest s.block (m - 1) (omega (arith, s.within))
            (s.is ∙ ap (below (sought (numbers ix) x)) row ∙ below_miss (sought (numbers ix) x) (m - 1) (ne_eqb _ _ (λ y. e (number_is ∙ y))))
            lower_is
