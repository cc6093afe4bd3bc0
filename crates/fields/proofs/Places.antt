-- What stands at a place of a text, and what an answer of it says. Assumes nothing.
use Rattle.basis.proofs.Prelude.{◌∙◌, ◌≡◌, ap, sym, ◌+◌, ◌<◌, ◌≤◌, ℕ, List, [], ◌∷◌, Bool, false, true, eqb, ltb, drop, drop_of_length-le, get_or, length, length-drop, drop-cons, add-one, arith, ltb-false, ltb-true, both, by_test}
use Rattle.std.specs.Prelude.{Option, Some, None}
use Rattle.fields.specs.{Fields.{Found, found, unreadable, onward, passed, is_at}, Answers.{place_of, answer_in, Reads}}

module _ (s : List ℕ) (i : ℕ) where
  pub here : i < length s → drop i s ≡ get_or s i 0 ∷ drop (i + 1) s
  here h = rw add-one (drop-cons s i 0 h)

  pub past_end : length s ≤ i → drop i s ≡ []
  past_end h = drop_of_length-le s h

  -- ---- the byte that ends a field
  pub at_inside : (e : ℕ) → is_at s i e ≡ true → i < length s
  at_inside e h = ltb-true i (length s) (both (ltb i (length s)) (eqb (get_or s i 0) e) h).0

  module _ {A : Type 0} (e : ℕ) (a : A) where
    pub passed_not : is_at s i e ≡ false → passed e a (drop i s) ≡ unreadable
    passed_not h = unfold passed in
        by_test (ltb i (length s)) (λ l. rw (here (ltb-true i (length s) l), rw l at h)) (λ l. rw (past_end (ltb-false i (length s) l)))

    pub passed_at : is_at s i e ≡ true → passed e a (drop i s) ≡ found a (drop (i + 1) s)
    passed_at h = unfold passed in rw (here (at_inside e h), (both (ltb i (length s)) (eqb (get_or s i 0) e) h).1)

-- after a value, as the test of the byte says
module _ {A : Type 0} (s : List ℕ) (v : A) (i e : ℕ) (x : Option (A × ℕ)) (is : x ≡ Some (v, i)) (b : Bool) (t : b ≡ is_at s i e) where
  pub end_not : b ≡ false → Reads s None (onward (answer_in s x) (passed e))
  end_not n = rw (is, passed_not s i e v (sym t ∙ n)) (search)

  pub end_at : b ≡ true → Reads s (Some (v, i + 1)) (onward (answer_in s x) (passed e))
  end_at n =
      let h = sym t ∙ n in
      let same : i + 1 ≡ place_of s (drop (i + 1) s) = omega (arith, at_inside s i e h, length-drop (i + 1) s) in
      rw (is, passed_at s i e v h) (search)

-- ---- what is found, by an answer that is known
pub said : {A : Type 0} {text : List ℕ} {r x : Option (A × ℕ)} {f : Found A} → Reads text r f → r ≡ x → f ≡ answer_in text x
said p e = cc

-- ---- one field after another: a first that can't be read, and what comes after one that is read
module _ {A B : Type 0} (text : List ℕ) {r : Option (A × ℕ)} {f : Found A} (k : A → List ℕ → Found B) (says : answer_in text r ≡ f) (y : Option (B × ℕ)) where
  pub unread : r ≡ None → y ≡ None → Reads text y (onward f k)
  unread is none = rw (← says, is, none) (search)

  pub read_on : (a : A) (i : ℕ) → r ≡ Some (a, i) → Reads text y (k a (drop i text)) → Reads text y (onward f k)
  read_on a i is p = rw (← says, is) p

-- the last of a line, whose value completes what is read
pub read_last : {A B : Type 0} (text : List ℕ) {r : Option (A × ℕ)} {f : Found A} (k : A → List ℕ → Found B) → Reads text r f → (a : A) (i : ℕ) (b : B)
    → r ≡ Some (a, i) → k a (drop i text) ≡ found b (drop i text) → Reads text (Some (b, i)) (onward f k)
read_last {A} text {r} {f} k p a i b is e =
    let here : f ≡ found a (drop i text) = cc in
    let both_at : ◌≡◌ {A = A × ℕ} (a, i) (a, place_of text (drop i text)) = cc in
    let same : i ≡ place_of text (drop i text) = ap (λ (q : A × ℕ). q.1) both_at in
    rw (here, e) (search)
