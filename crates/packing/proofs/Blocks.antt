-- Values written one after the other, and read back: how a loop writes and reads them, and that reading gives back what was written. Assumes nothing.
use Rattle.basis.proofs.Prelude.{◌∙◌, ◌≡◌, ap, refl, sym, ◌*◌, ◌+◌, ◌<◌, ◌≤◌, suc, zero, ℕ, List, [], ◌++◌, ◌∷◌, append_assoc, append-nil, drop, get_or, length, length-append, length-drop, set, take, drop-append-le, drop_at, drop-drop, length-sets, length-take-le, sets, sets-eq, take_all, take-suc, mul-le-mul_right, suc-mul, zero-mul, add-zero, zero-add, add-one, get_or_at, map, map-append, take-suc-set, ◌-◌, arith, le-leb, leb, leb-false, leb-true, min, drop_of_length-le, lt-leb, by_test}
use native.Mathlib.Nat.{add_comm, min-eq_left, suc-add}
use borrow.Rule.Slice.PartMut.{put_mid, Post-is}
use Rattle.packing.proofs.Names.{Every, Put, PutAll, over, parts, put, written}

-- ---- Words put into a list

-- where there is no room
pub put_none : (k : ℕ) (new l : List ℕ) → length l < k + length new → put k new l ≡ l
put_none k new l h = unfold put in simp (lt-leb _ _ h)

-- stores one after the other, where there is room
pub put_sets : (k : ℕ) (new l : List ℕ) → k + length new ≤ length l → sets l k new ≡ put k new l
put_sets k new l h = unfold put in simp (le-leb _ _ h) (sets-eq new l k h)

pub put_length : (k : ℕ) (new l : List ℕ) → length (put k new l) ≡ length l
put_length k new l =
    by_test (leb (k + length new) (length l)) (λ e. rw (← put_sets k new l (leb-true _ _ e)) (length-sets l k new)) (λ e. unfold put in rw e)

-- put from the first place on
pub put_first : (new l : List ℕ) → length new ≤ length l → put 0 new l ≡ over new l
put_first new l h = sym (put_sets 0 new l (omega arith)) ∙ sets-eq new l 0 (omega arith) ∙ rw zero-add

-- a part of the list that they take the place of
pub put_part : (k e : ℕ) (new l : List ℕ) → e ≡ k + length new → e ≤ length l → put_mid k (e - k) l new ≡ put k new l
put_part k e new l is h = unfold put in rw (Post-is k e l (omega arith), is, ← append_assoc, le-leb (k + length new) (length l) (omega arith))

-- stores behind others
pub sets_append : (s new l : List ℕ) (k : ℕ) → sets l k (s ++ new) ≡ sets (sets l k s) (k + length s) new
sets_append [] new l k = rw add-zero
sets_append (x ∷ s) new l k = let at : k + suc (length s) ≡ suc k + length s = omega arith in rw at (sets_append s new (set l k x) (suc k))

-- a place that is bounded by a number past the list's end
pub drop_bounded : {A : Type 0} (l : List A) (n : ℕ) {m bound : ℕ} → length l ≤ bound → m ≡ min n bound → drop m l ≡ drop n l
drop_bounded l n {m} {bound} h e = by_test (leb n bound) (λ t. rw (e, min-eq_left (leb-true n bound t)))
    (λ t. let k : bound < n = omega (arith, leb-false n bound t) in rw (e, drop_of_length-le l {i = min n bound} (omega arith), drop_of_length-le l {i = n} (omega arith)))

module _ {A : Type 0} where
  -- values that a function leaves as they are
  pub every_same : (P : A → Type 0) (h : A → A) → ((x : A) → P x → h x ≡ x) → (l : List A) → Every P l → map h l ≡ l
  unfolding Every
  every_same P h same [] e = refl
  every_same P h same (x ∷ l) e = rw (same x e.0, every_same P h same l e.1)

  -- ---- How values are written

  -- no room for the n words of a value
  pub unput : (f : A → List ℕ) (g : List ℕ → A) (n : ℕ) (x : A) (k : ℕ) (l : List ℕ) → length (f x) ≡ n → g (f x) ≡ x → length l < k + n → Put f g x k l l
  unput f g n x k l long back h = record { words = sym (put_none k _ l (omega arith)); back = back }

  pub put_long : {f : A → List ℕ} {g : List ℕ → A} {a : List A} {l c : List ℕ} → PutAll f g a l c → length c ≡ length l
  put_long p = ap length p.words ∙ put_length _ _ _

  module _ {k : ℕ} (f : A → List ℕ) (g : List ℕ → A) (long : (x : A) → length (f x) ≡ k) where
    pub written_length : (l : List A) → length (written f l) ≡ length l * k
    unfolding written
    written_length [] = sym (zero-mul k)
    written_length (x ∷ l) = length-append (f x) (written f l) ∙ omega (arith, long x, written_length l, suc-mul (length l) k)

    pub written_append : (a b : List A) → written f (a ++ b) ≡ written f a ++ written f b
    unfolding written
    written_append [] b = refl
    written_append (x ∷ a) b = rw (written_append a b) (sym (append_assoc (f x) (written f a) (written f b)))

    -- no room for n values
    pub put_short : (n : ℕ) (a : List A) (l : List ℕ) → length a ≡ n → length l < n * k → PutAll f g a l l
    put_short n a l all h =
        let short : length l < length (written f a) = rw (written_length a, all) h in
        record { words = sym (put_none 0 (written f a) l (omega arith)); back = λ fits. absurd (omega arith) }

    pub put_nothing : (l : List ℕ) → PutAll f g [] l l
    unfolding written
    put_nothing l = record { words = sym (put_first [] l (omega arith)); back = λ h. refl }

    -- a loop goes on by one: the words of the value i are put after those before it
    pub put_more : (n : ℕ) (a : List A) {l c c' : List ℕ} (i : ℕ) {at : ℕ} (x : A) → length a ≡ n → n * k ≤ length l → i < n → at ≡ i * k → x ≡ get_or a i x
        → PutAll f g (take i a) l c → Put f g x at c c' → PutAll f g (take (i + 1) a) l c'
    put_more n a {l} i {at} x all room h e is so p =
        let w = written f (take i a) in
        let first : 0 + length w ≡ at = omega (arith, rw (length-take-le i a (omega arith)) at (written_length (take i a))) in
        let here : at + length (f x) ≤ length l = omega (arith, long x, mul-le-mul_right k h) in
        let next : written f (take i a ++ (x ∷ [])) ≡ w ++ f x = written_append (take i a) (x ∷ []) ∙ (unfold written in rw append-nil) in
        rw (add-one, take-suc a i x (omega arith), ← is) (record {
          words = rw (p.words, so.words, next, ← put_sets 0 w l (omega arith), ← put_sets 0 (w ++ f x) l (omega (arith, length-append w (f x))))
              (rw (← put_sets at (f x) (sets l 0 w) (omega (arith, length-sets l 0 w)), sets_append w (f x) l 0, first));
          back = λ fits. map-append (λ y. g (f y)) (take i a) (x ∷ []) ∙ rw (so.back (omega arith), p.back);
        })

    pub put_done : (n : ℕ) (a : List A) {l c : List ℕ} (i : ℕ) → length a ≡ n → n ≤ i → PutAll f g (take i a) l c → PutAll f g a l c
    put_done n a i all h so = rw (take_all i a (omega arith)) at so

  -- ---- How values are read

  module _ (k : ℕ) (g : List ℕ → A) where
    pub parts_length : (n : ℕ) (l : List ℕ) → length (parts k g n l) ≡ n
    unfolding parts
    parts_length zero l = refl
    parts_length (suc n) l = ap suc (parts_length n (drop k l))

    pub parts_part : (m n : ℕ) (l : List ℕ) → parts k g (m + n) l ≡ parts k g m l ++ parts k g n (drop (m * k) l)
    unfolding parts
    parts_part zero n l = rw (zero-add n, zero-mul k)
    parts_part (suc m) n l =
        rw (suc-add m n, parts_part m n (drop k l), drop-drop (m * k) k l, suc-mul m k, add_comm (m * k) k)

    -- a value by its place
    pub parts_at : (n i : ℕ) (l : List ℕ) (d : A) → i < n → get_or (parts k g n l) i d ≡ g (drop (i * k) l)
    unfolding parts
    parts_at n i l d h =
        let all : n ≡ i + suc (n - suc i) = omega arith in
        rw (all, parts_part i (suc (n - suc i)) l) (get_or_at (parts k g i l) _ _ d i (parts_length i l))

    -- a loop goes on by one: the value i is read; and all are read
    pub parts_more : (l : List ℕ) (a : List A) (i : ℕ) {n : ℕ} {x : A} → length a ≡ n → i < n → take i a ≡ parts k g i l → x ≡ g (drop (i * k) l)
        → take (i + 1) (set a i x) ≡ parts k g (i + 1) l
    unfolding parts
    parts_more l a i all h so is = rw (parts_part i 1 l, ← so, is, add-one) (take-suc-set a i _ (omega arith))

    pub parts_done : (l : List ℕ) (a : List A) (i : ℕ) {n : ℕ} → i ≤ n → n ≤ i → length a ≡ n → take i a ≡ parts k g i l → a ≡ parts k g n l
    parts_done l a i {n} low high all so = let is : i ≡ n = omega arith in sym (take_all i a (omega arith)) ∙ so ∙ rw is

    module _ (near : (x r : List ℕ) → k ≤ length x → g (x ++ r) ≡ g x) where
      -- words past the values are not read
      pub parts_near : (m : ℕ) (x r : List ℕ) → m * k ≤ length x → parts k g m (x ++ r) ≡ parts k g m x
      unfolding parts
      parts_near zero x r h = refl
      parts_near (suc m) x r h =
          let first : k ≤ length x = omega (arith, suc-mul m k) in
          rw (near x r first, drop-append-le k x r first, parts_near m (drop k x) r (omega (arith, suc-mul m k, length-drop k x)))

      -- what was written is read back
      pub read_back : (f : A → List ℕ) → ((x : A) → length (f x) ≡ k) → (l : List A) {n : ℕ} → length l ≡ n → parts k g n (written f l) ≡ map (λ x. g (f x)) l
      unfolding parts written
      read_back f long [] all = rw (← all)
      read_back f long (x ∷ l) all = rw (← all, near (f x) (written f l) (omega (arith, long x)), drop_at (f x) (written f l) k (long x), read_back f long l refl)
