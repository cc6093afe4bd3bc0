-- The positions, and a list that is filled place by place. Assumes nothing.
use Rattle.basis.proofs.Prelude.{zero-add, rules, length-map, map-append, ℕ, zero, suc, ◌+◌, ◌≤◌, ◌<◌, arith, add-one, ◌≡◌, refl, ap, sym, ◌∙◌, List, [], ◌∷◌, ◌++◌, map, length, get_or, take, drop, set, length-set, drop-cons, set_at, append_snoc, take_at, take-suc}
use Rattle.orders.proofs.Each.{Each}
use Rattle.columns.specs.Columns.{positions, filled}

-- ---- The positions

pub positions_length : (k n : ℕ) → length (positions k n) ≡ n
unfolding positions
positions_length k zero = refl
positions_length k (suc n) = ap suc (positions_length (suc k) n)

pub positions_at : (k n i : ℕ) → i < n → get_or (positions k n) i 0 ≡ k + i
unfolding positions
positions_at k zero i h = absurd (omega arith)
positions_at k (suc n) zero h = omega arith
positions_at k (suc n) (suc i) h = positions_at (suc k) n i (omega arith) ∙ omega arith

positions_more : (k n : ℕ) → positions k (suc n) ≡ positions k n ++ ((k + n) ∷ [])
unfolding positions
positions_more k zero = ap (λ (z : ℕ). z ∷ []) (omega arith)
positions_more k (suc n) = ap (λ (r : List ℕ). k ∷ r) (positions_more (suc k) n ∙ ap (λ (z : ℕ). positions (suc k) n ++ (z ∷ [])) (omega arith))

positions_each : (P : ℕ → Type 0) (k n : ℕ) → ((p : ℕ) → k ≤ p → p < k + n → P p) → Each P (positions k n)
unfolding positions
positions_each P k zero f = tt
positions_each P k (suc n) f = (f k (omega arith) (omega arith), positions_each P (suc k) n (λ p a b. f p (omega arith) (omega arith)))

pub positions_from : (j k n : ℕ) → j ≤ k → Each (λ p. j ≤ p) (positions k n)
positions_from j k n h = positions_each _ k n (λ p a b. omega arith)

pub positions_below : (n : ℕ) → Each (λ p. p < n) (positions 0 n)
positions_below n = positions_each _ 0 n (λ p a b. omega arith)

-- a list read at its first positions
pub reads : {A : Type 0} (d : A) (l : List A) (n : ℕ) → n ≤ length l → map (λ i. get_or l i d) (positions 0 n) ≡ take n l
reads d l zero h = unfold positions in refl
reads d l (suc n) h = rw (positions_more 0 n, map-append, zero-add, reads d l n (omega arith)) (sym (take-suc l n d h))

-- ---- A list filled

module _ (f : ℕ → ℕ) where
  front_length : (n : ℕ) → length (map f (positions 0 n)) ≡ n
  front_length n = length-map (positions 0 n) f ∙ positions_length 0 n

  filled_on : (i : ℕ) (l : List ℕ) → i < length l → set (filled f i l) i (f i) ≡ filled f (i + 1) l
  filled_on i l h = unfold filled in
      rw (add-one i, drop-cons l i 0 h, positions_more 0 i, map-append, zero-add, append_snoc) (set_at (map f (positions 0 i)) _ _ _ i (front_length i))

  pub filled_take : (n : ℕ) (l : List ℕ) → take n (filled f n l) ≡ map f (positions 0 n)
  filled_take n l = unfold filled in take_at (map f (positions 0 n)) (drop n l) n (front_length n)

-- a list on its way: its first i places are filled
pub record Filling (f : ℕ → ℕ) (n : ℕ) (l₀ l : List ℕ) (i : ℕ) : Type 0 where
  pub within : i ≤ n
  pub few : n ≤ 1024
  pub room : n ≤ length l₀
  pub kept : length l ≡ length l₀
  pub so_far : l ≡ filled f i l₀

pub fill_begins : (f : ℕ → ℕ) {n : ℕ} {l : List ℕ} → n ≤ 1024 → n ≤ length l → Filling f n l l 0
fill_begins f few room = unfold filled positions in record { within = omega arith; few = few; room = room; kept = refl; so_far = refl }

module _ {f : ℕ → ℕ} {n i : ℕ} {l₀ l : List ℕ} (q : Filling f n l₀ l i) where
  pub fill_on : i < n → (v : ℕ) → v ≡ f i → Filling f n l₀ (set l i v) (i + 1)
  fill_on h v e = let so_far : set l i v ≡ filled f (i + 1) l₀ = rw (q.so_far, e) (filled_on f i l₀ (omega arith)) in search (length-set, arith)

  pub fill_ends : n ≤ i → l ≡ filled f n l₀
  fill_ends h = let z : i ≡ n = omega arith in rw z at q.so_far

pub ruleset filling = (fill_begins, fill_on, fill_ends, rules)
