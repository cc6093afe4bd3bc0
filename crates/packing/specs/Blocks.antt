-- Values that take the same number of words each, one after the other. Assumes nothing.
use Rattle.std.specs.Prelude.{ℕ, zero, suc, ◌+◌, ◌≤◌, ◌≡◌, cond, List, [], ◌∷◌, ◌++◌, map, leb, length, take, drop}

-- the words new at the place k of l; where there is no room for them, l as it is
unfoldable pub put : ℕ → List ℕ → List ℕ → List ℕ
put k new l = cond (leb (k + length new) (length l)) (take k l ++ new ++ drop (k + length new) l) l

module _ {A : Type 0} where
  -- the words of all values
  unfoldable pub written : (A → List ℕ) → List A → List ℕ
  written f [] = []
  written f (x ∷ l) = f x ++ written f l

  -- the first n values, k words each, as g reads them
  unfoldable pub parts : ℕ → (List ℕ → A) → ℕ → List ℕ → List A
  parts k g zero l = []
  parts k g (suc n) l = g l ∷ parts k g n (drop k l)

  -- P holds of each value
  unfoldable pub Every : (A → Type 0) → List A → Type 0
  Every P [] = Unit {0}
  Every P (x ∷ l) = P x × Every P l

  -- the words of x, as f writes them, are at the place k where there is room, and g reads them back as x
  pub record Put (f : A → List ℕ) (g : List ℕ → A) (x : A) (k : ℕ) (l l' : List ℕ) : Type 0 where
    pub words : l' ≡ put k (f x) l
    pub back : g (f x) ≡ x

  -- the same of all values, from the first place on
  pub record PutAll (f : A → List ℕ) (g : List ℕ → A) (values : List A) (l l' : List ℕ) : Type 0 where
    pub words : l' ≡ put 0 (written f values) l
    pub back : length (written f values) ≤ length l → map (λ x. g (f x)) values ≡ values
