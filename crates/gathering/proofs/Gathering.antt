-- A text put after others in a list. Assumes nothing.
use Rattle.basis.proofs.Prelude.{◌∙◌, ◌≡◌, refl, sym, ◌+◌, ◌-◌, ◌<◌, ◌≤◌, ℕ, List, ◌++◌, append_assoc, leb, drop, drop_at, drop-drop, drop_of_length-le, length, length-append, length-drop, take, take_all, take-append-drop, take_at, length-take-le, arith, by_test, le-leb, leb-true}
use borrow.Rule.Slice.PartMut.{put_mid, Post-is}
use Rattle.gathering.specs.Gathering.{Appends, Appended}

module _ (list : List ℕ) (n : ℕ) (from : List ℕ) (at : ℕ) where
  -- a text of no bytes is put anywhere, and nothing is written
  pub none_appended : length from < at → Appended (drop at from) list n n list
  none_appended h = rw (drop_of_length-le from {i = at} (omega arith)) (by_test (leb (n + 0) (length list))
      (λ e. rw e (record { place = omega arith; places = sym (take-append-drop n list) }))
      (λ e. rw e (record { place = refl; places = refl })))

  -- where there is room for it, it is copied over as many places
  pub copied : {text part : List ℕ} → text ≡ take (length from - at) (drop at from) → at ≤ length from → n ≤ length list → length text ≤ length list - n
      → part ≡ text → Appended (drop at from) list n (n + length text) (put_mid n (n + length text - n) list part)
  copied {text} {part} src h k fits copy =
      let long = length-drop at from in
      let whole : text ≡ drop at from = src ∙ take_all (length from - at) (drop at from) (omega arith) in
      rw (← whole, le-leb (n + length text) (length list) (omega arith)) (record { place = refl; places = rw (copy, Post-is n (n + length text) list (omega arith)) })

module _ {text list : List ℕ} {n r : ℕ} {list' : List ℕ} (h : n ≤ length list) (a : Appends text list n r list') where
  front : length (take n list ++ text) ≡ r
  front = simp (length-append, length-take-le n list h) (omega (arith, a.place))

  -- WHAT IS GATHERED, then, is what was and the text, and the places after it are as they were
  pub gathered : take r list' ≡ take n list ++ text
  gathered = rw (a.places, ← append_assoc (take n list) text (drop r list)) (take_at (take n list ++ text) (drop r list) r front)

  kept : drop r list' ≡ drop r list
  kept = rw (a.places, ← append_assoc (take n list) text (drop r list)) (drop_at (take n list ++ text) (drop r list) r front)

  pub sized : r ≤ length list → length list' ≡ length list
  sized k = rw (← take-append-drop r list', gathered, kept, length-append, front, length-drop) (omega arith)

  -- another text after it: both are put as one
  pub appends_on : {more list'' : List ℕ} {s : ℕ} → r ≤ length list' → Appends more list' r s list'' → Appends (text ++ more) list n s list''
  appends_on {more} {list''} {s} k b =
      let back : drop s list' ≡ drop s list = rw (b.place, ← drop-drop (length more) r list', ← drop-drop (length more) r list, kept) in
      let long : s ≡ n + length (text ++ more) = simp length-append (omega (arith, a.place, b.place)) in
      record { place = long; places = rw (b.places, gathered, back, append_assoc, append_assoc) }

-- where there is room, it is put
pub appended_room : (text list : List ℕ) (n r : ℕ) (list' : List ℕ) → Appended text list n r list' → n + length text ≤ length list
    → Appends text list n r list'
appended_room text list n r list' a h = rw (le-leb (n + length text) (length list) h) at a

-- where more places are taken afterwards, there was
pub grown : (text list : List ℕ) (n r : ℕ) (list' : List ℕ) → Appended text list n r list' → n < r → take r list' ≡ take n list ++ text
grown text list n r list' a h = by_test (leb (n + length text) (length list))
    (λ e. gathered (omega (arith, leb-true)) (rw e at a))
    (λ e. let no = rw e at a in absurd (omega arith))
