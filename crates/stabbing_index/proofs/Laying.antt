-- Words laid into a block from a place on, a column that is filled word by word, and the buckets of the numbers. Assumes nothing.
use Rattle.stabbing_index.proofs.Names.{suc, zero, ◌≢◌, ltb, eqb, eqb-true, eqb-false, ltb-true, ltb-false, by_eq, by_test, ◌∙◌, ◌≡◌, ap, refl, sym, ◌+◌, ◌<◌, ◌≤◌, zero-le, le_refl, add-one, ℕ, List, [], ◌∷◌, ◌++◌, append-nil, append_assoc, get_or, length, length-set, length-replicate, replicate, set, take, get_or-set_other, get_or-set_same, take-suc-set, arith, rules, column, column_only, Extends, Grown, get_or-take, ◌%◌, Bool, eq-eqb, ne_eqb, le-ltb, lt-ltb, below, capacity, bucket_count, bucket_table, lower_column, row_count, bucket_of, in_bucket, below_hit, below_miss, lower_word, name_words, Named}

-- ---- a block
module _ {e x ws : List ℕ} {a b : ℕ} (i : Extends e a b ws x) where
  -- a column more, and a word more
  pub laid_more : {c : ℕ} {y vs : List ℕ} → Extends x b c vs y → Extends e a c (ws ++ vs) y
  laid_more {vs = vs} j = record { size = j.size ∙ i.size; front = j.front ∙ rw i.front (append_assoc (take a e) ws vs) }

  pub laid_word : (v : ℕ) → b < length e → Extends e a (suc b) (ws ++ (v ∷ [])) (set x b v)
  laid_word v h = laid_more (record { size = length-set x b v; front = take-suc-set x b v (omega (arith, i.size)) })

column_more : (k : ℕ) (f : ℕ → ℕ) → column (suc k) f ≡ column k f ++ (f k ∷ [])
unfolding column
column_more zero f = refl
column_more (suc k) f = ap (λ (r : List ℕ). f 0 ∷ r) (column_more k (λ j. f (suc j)))

-- of n words from a on the first k are laid, those of f
pub record Laying (e : List ℕ) (a n : ℕ) (f : ℕ → ℕ) (k : ℕ) (x : List ℕ) : Type 0 where
  pub room : a + n ≤ length e
  pub within : k ≤ n
  pub so_far : Extends e a (a + k) (column k f) x

module _ {e : List ℕ} {a n : ℕ} {f : ℕ → ℕ} where
  pub laying_none : a + n ≤ length e → Laying e a n f 0 e
  laying_none h = unfold column in let z : a + 0 ≡ a = omega arith in
      record { room = h; within = zero-le; so_far = record { size = refl; front = rw z (sym (append-nil (take a e))) } }

  module _ {k : ℕ} {x : List ℕ} (i : Laying e a n f k x) where
    pub laying_next : k < n → {v : ℕ} → v ≡ f k → Laying e a n f (k + 1) (set x (a + k) v)
    laying_next h {v} y = let z : a + (k + 1) ≡ suc (a + k) = omega arith in
        record { room = i.room; within = omega arith; so_far = rw (z, add-one k, column_more k f, ← y) (laid_word i.so_far v (omega arith)) }

    pub laying_all : n ≤ k → Extends e a (a + n) (column n f) x
    laying_all h = let z : k ≡ n = omega arith in rw z at i.so_far

-- the same words: a list and the column that it is
pub laid_column : {e x ws : List ℕ} {a : ℕ} (n : ℕ) (f : ℕ → ℕ) → length ws ≡ n → ((p : ℕ) → p < n → get_or ws p 0 ≡ f p) → Extends e a (a + length ws) ws x → Extends e a (a + n) (column n f) x
laid_column {ws = ws} n f s w i = rw (s, column_only n f ws s w) at i

-- a list, and a column after it
pub marks_all : {e m x marks : List ℕ} {f : ℕ → ℕ} {a k : ℕ} → length marks ≡ 1024 → Extends e a (a + length marks) marks m → Laying m (a + 1024) 1024 f k x → 1024 ≤ k
    → Extends e a (a + 2048) (marks ++ column 1024 f) x
marks_all {a = a} n i j h = let t : a + 1024 + 1024 ≡ a + 2048 = omega arith in laid_more (rw n at i) (rw t at (laying_all j h))

-- ---- a column of its own
-- a word that is set, and the others
pub set_word : (ws : List ℕ) (u v x : ℕ) {w : ℕ} → u < length ws → (v ≡ u → x ≡ w) → (v ≢ u → get_or ws v 0 ≡ w) → get_or (set ws u x) v 0 ≡ w
set_word ws u v x h f g = by_test (eqb v u)
    (λ t. let z : v ≡ u = eqb-true v u t in rw z (get_or-set_same ws u x 0 h ∙ f z))
    (λ t. get_or-set_other ws u v x 0 (eqb-false v u t) ∙ g (eqb-false v u t))

pub zeros_at : (n v : ℕ) → ◌≡◌ {A = ℕ} (get_or (replicate n 0) v 0) 0
zeros_at zero v = refl
zeros_at (suc n) zero = refl
zeros_at (suc n) (suc v) = zeros_at n v

pub grown_none : (m : ℕ) {n : ℕ} {g : ℕ → ℕ} → m ≡ n → Grown n (replicate m 0) g 0
grown_none m e = record { size = length-replicate m 0 ∙ e; done = λ v h. absurd (omega arith); rest = λ v h. zeros_at m v }

module _ {n k : ℕ} {ws : List ℕ} {g : ℕ → ℕ} (q : Grown n ws g k) where
  pub grow_set : k < n → {x : ℕ} → x ≡ g k → Grown n (set ws k x) g (k + 1)
  grow_set h {x} e = record {
    size = length-set ws k x ∙ q.size;
    done = λ v l. set_word ws k v x (omega (arith, q.size)) (λ z. e ∙ ap g (sym z)) (λ n. q.done v (omega arith));
    rest = λ v l. get_or-set_other ws k v x 0 (λ z. omega arith) ∙ q.rest v (omega arith);
  }

  pub grow_skip : g k ≡ 0 → Grown n ws g (k + 1)
  grow_skip e = record {
    size = q.size;
    done = λ v l. by_eq v k (omega arith) (λ z. rw z (q.rest k (le_refl k) ∙ sym e)) (q.done v);
    rest = λ v l. q.rest v (omega arith);
  }

  -- all of them, where g gives none past k
  pub grown_all : ((v : ℕ) → k ≤ v → g v ≡ 0) → (v : ℕ) → get_or ws v 0 ≡ g v
  grown_all z v = by_test (ltb v k) (λ e. q.done v (ltb-true v k e)) (λ e. let l = ltb-false v k e in q.rest v l ∙ sym (z v l))

-- ---- the buckets of the numbers, row by row
pub nobody : (ns : List ℕ) (n a b : ℕ) → a ≡ 2039 → b ≡ 1024 → Named ns (replicate a 0) (replicate b 0) n 0
nobody ns n a b e g = unfold in_bucket below in record { within = omega arith; size = length-replicate a 0 ∙ e; buckets = λ x _. zeros_at a x; lowers = grown_none b g }

-- one row more: the row k, with the number x
pub one_more : (numbers : List ℕ) {bs ws : List ℕ} {k n x : ℕ} → Named (take n numbers) bs ws n k → k < n → n ≤ 1024 → x ≡ get_or numbers k 0
    → Named (take n numbers) (set bs (x % 2039) (k + 1)) (set ws k (get_or bs (x % 2039) 0)) n (k + 1)
one_more numbers {bs} {ws} {k} {n} {x} i h few is = unfold in_bucket in let ns : List ℕ = take n numbers in
    let e : x ≡ get_or ns k 0 = is ∙ sym (get_or-take n numbers k 0 h) in let t : ℕ → ℕ → Bool = λ b p. eqb (bucket_of (get_or ns p 0)) b in record {
      within = omega arith;
      size = length-set bs (x % 2039) (k + 1) ∙ i.size;
      buckets = λ b g. rw (add-one k) (set_word bs (x % 2039) b (suc k) (omega (arith, i.size))
          (λ z. sym (below_hit (t b) k (eq-eqb (bucket_of (get_or ns k 0)) b (rw (← e) (sym z)))))
          (λ d. i.buckets b g ∙ sym (below_miss (t b) k (ne_eqb (bucket_of (get_or ns k 0)) b (λ y. d (sym y ∙ ap bucket_of (sym e)))))));
      lowers = grow_set i.lowers (omega arith) (i.buckets (x % 2039) (omega arith) ∙ rw (lt-ltb k n h, ← e));
    }

-- all rows: the words from the buckets on
pub names_laid : {ns bs ws e m x : List ℕ} {n : ℕ} → Named ns bs ws n n → Extends e bucket_table (bucket_table + length bs) bs m → Extends m lower_column (lower_column + length ws) ws x
    → Extends e bucket_table row_count (name_words ns n) x
names_laid {ns} {n = n} q i j = laid_more (laid_column bucket_count (λ b. in_bucket ns b n) q.size q.buckets i)
    (laid_column capacity (lower_word ns n) q.lowers.size (λ p _. grown_all q.lowers (λ v l. rw (le-ltb v n l)) p) j)

pub ruleset naming = (nobody, one_more, names_laid, rules)

pub ruleset steps = (laying_next, laying_all, marks_all, rules)
