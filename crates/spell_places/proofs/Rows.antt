-- The columns of a list of spells: how a loop lays one out. Assumes nothing.
use Rattle.basis.proofs.Prelude.{◌∙◌, ◌≡◌, ap, refl, sym, ◌+◌, ◌<◌, suc, zero, ℕ, List, [], ◌++◌, ◌∷◌, map, drop, get_or, length, length-map, length-set, set, take, take-length, List·getD-map}
use Rattle.buffer.proofs.Overlaid as buffer
use Rattle.orders.proofs.Each.{map-map}
use Rattle.rules.specs.Rules.{cut, last_of}
use Rattle.spell.specs.{declared.Spell.Spell, Blank.blank}
use Rattle.spell_places.specs.List.{column_of, LaidOut}

-- ---- A column is laid out place by place

-- the first i places of the column c hold the field f of the first i spells of a; later places are as they were before
pub record Filled (f : Spell → ℕ) (a : List Spell) (before c : List ℕ) (i : ℕ) : Type 0 where
  pub long : length c ≡ length before
  pub so_far : c ≡ map f (take i a) ++ drop i before

map_take : (f : Spell → ℕ) (n : ℕ) (l : List Spell) → map f (take n l) ≡ take n (map f l)
map_take f zero l = refl
map_take f (suc n) [] = refl
map_take f (suc n) (x ∷ l) = ap (λ (r : List ℕ). f x ∷ r) (map_take f n l)

module _ (f : Spell → ℕ) (a : List Spell) (before : List ℕ) where
  pub filled_none : Filled f a before before 0
  filled_none = record { long = refl; so_far = refl }

  pub filled_more : (c : List ℕ) (i : ℕ) {v : ℕ} → v ≡ f (get_or a i blank) → i < length a → i < length before → Filled f a before c i → Filled f a before (set c i v) (i + 1)
  filled_more c i {v} is ha hb e = let so_far : set c i v ≡ map f (take (i + 1) a) ++ drop (i + 1) before = rw (e.so_far, map_take f i a, map_take f (i + 1) a)
      (buffer.filled before (map f a) i (f blank) v (is ∙ sym (List·getD-map f a i blank)) hb (rw length-map ha)) in search length-set

-- the column of a list, in a field of the spells as a rule publishes them
laid : (rule : ℕ) (l : List Spell) (f : Spell → ℕ) {before c : List ℕ} → Filled (λ s. f (cut rule s)) l before c (length l) → c ≡ column_of f (map (cut rule) l) before
laid rule l f e = rw (map-map f (cut rule) l, length-map) (rw take-length at e.so_far)

-- the columns of the list that a count names, as a rule publishes it
pub laid_out : (rule : ℕ) (l l' : List Spell) {i n : ℕ} {numbers candidates firsts lasts numbers' candidates' firsts' lasts' : List ℕ} → l ≡ l' → i ≡ length l → n ≡ length l
    → Filled (λ s. s.number) l numbers numbers' i → Filled (λ s. s.candidate) l candidates candidates' i → Filled (λ s. s.first) l firsts firsts' i → Filled (last_of rule) l lasts lasts' i
    → LaidOut (map (cut rule) l') n numbers candidates firsts lasts numbers' candidates' firsts' lasts'
laid_out rule l l' named done many number candidate first last = rw (← named) (record {
  count = many ∙ sym (length-map l (cut rule));
  number = laid rule l (λ s. s.number) (rw done at number);
  candidate = laid rule l (λ s. s.candidate) (rw done at candidate);
  first = laid rule l (λ s. s.first) (rw done at first);
  last = laid rule l (λ s. s.last) (rw done at last);
})
