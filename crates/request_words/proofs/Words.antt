-- The word that a line begins with, by the library's comparison of lists and row by row. Assumes nothing.
use Prim.Native.String.{String}
use Rattle.std.specs.Borrow.{Bor}
use Rattle.std.specs.List.{starts_with}
use Rattle.requests.proofs.Names.{begins, bytes_of, head_of}
use Rattle.requests.specs.declared.{Head.Head, Layout.{Layout, TheVariants.Unknown}}
use Rattle.request_words.specs.Clauses.{head_among, rows_of}
use Rattle.basis.proofs.Prelude.{◌≡◌, ◌+◌, ◌<◌, ◌≤◌, ℕ, List, [], ◌∷◌, false, true, add-one, drop, drop-cons, drop_of_length-le, by_test, eq-eqb, eqb, eqb-false, eqb-true, get_or, length, map, ne_eqb, refl, sym}

equal_back : (a b : ℕ) → eqb a b ≡ eqb b a
equal_back a b = by_test (eqb b a) (λ t. rw (t, eq-eqb a b (sym (eqb-true b a t)))) (λ t. rw (t, ne_eqb a b (λ e. eqb-false b a t (sym e))))

pub starts : (w s : List ℕ) → starts_with eqb s w ≡ begins w s
unfolding begins
starts [] s = refl
starts (a ∷ w) [] = refl
starts (a ∷ w) (b ∷ s) = rw (equal_back a b, starts w s)

-- ---- the rows from the place i on
module _ (rows : List (Bor (List ℕ) × Layout)) (s : List ℕ) (i : ℕ) where
  pub head_none : length rows ≤ i → ◌≡◌ {A = Head} (record { layout = Unknown; at = 0 }) (head_among (rows_of (drop i rows)) s)
  unfolding head_among
  head_none h = rw (drop_of_length-le rows h)

  module _ (d : Bor (List ℕ) × Layout) (h : i < length rows) where
    pub head_here : begins (get_or rows i d).0.now s ≡ true
        → ◌≡◌ {A = Head} (record { layout = (get_or rows i d).1; at = length (get_or rows i d).0.now }) (head_among (rows_of (drop i rows)) s)
    unfolding head_among
    head_here b = rw (drop-cons rows i d h, b)

    pub head_later : begins (get_or rows i d).0.now s ≡ false → head_among (rows_of (drop i rows)) s ≡ head_among (rows_of (drop (i + 1) rows)) s
    unfolding head_among
    head_later b = rw (drop-cons rows i d h, b, add-one)

-- by a table of words
pub head_is : (rows : List (String × Layout)) (s : List ℕ) → head_among (map (λ row. (bytes_of row.0, row.1)) rows) s ≡ head_of rows s
unfolding head_among head_of
head_is [] s = refl
head_is (row ∷ rows) s = rw (head_is rows s)
