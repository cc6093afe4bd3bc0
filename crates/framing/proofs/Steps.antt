-- The laws that the code follows: a byte put into its place, a byte of a line, a byte of a text. Assumes nothing.
use Rattle.framing.proofs.Names.{Advanced, Advances, Bool, Frame, Framed, HostAdvances, Keeps, Kept, List, None, Option, Part, Partial, PlaceIn, Progress, Some, TakesLine, TakesText, Whole, [], ◌++◌, ◌+◌, ◌-◌, ◌<◌, ◌∙◌, ◌∷◌, ◌≡◌, ◌≤◌, add-one, advanced_of, after, ap, arith, by_test, done, drop, drop-cons, drop-drop, drop-length, drop_of_length-le, drop-set-lt, eq-eqb, false, feed, get_or, going, in_line, kept, leb, leb-false, leb-true, length, length-append, length-set, length-take, length-take-le, line_fed, line_in, min, ne_eqb, next, not, not-false, not-true, part_of, partial_of, progress_of, ready, refl, refused_frame, sent_of, set, settled, suc, sym, take, take_all, take-append_seam, take-length, take-suc-set, taken_of, through, true, wants, ℕ}

-- ---- A byte put after others

pub byte_put : (l : List ℕ) (n b : ℕ) → n < length l → Keeps l n (b ∷ []) (n + 1) (set l n b)
byte_put l n b h = record {
  sized = length-set l n b;
  within = omega arith;
  bytes_kept = rw (add-one, take-suc-set) (sym (take_all (length l) (take n l ++ b ∷ []) (omega (arith, length-append (take n l) (b ∷ []), length-take-le n l (omega arith)))));
  rest = drop-set-lt (n + 1) l n b (omega arith);
}

-- where there is no room
pub byte_passed : (l : List ℕ) (n b : ℕ) → length l ≤ n → n ≤ length l → Keeps l n (b ∷ []) n l
byte_passed l n b h k =
    let e : n ≡ length l = omega arith in
    record { sized = refl; within = k; bytes_kept = rw (e, take-length, take-append_seam); rest = refl }

-- no fewer bytes than before
more : {l l' s : List ℕ} {n r : ℕ} → n ≤ length l → Keeps l n s r l' → n ≤ r
more {l} {l'} {s} {n} {r} h k =
    omega (arith, ap length k.bytes_kept, k.within, k.sized, length-take r l', length-take (length l) (take n l ++ s), length-append (take n l) s, length-take n l)

-- the places past it keep what they held
pub kept_on : (l₀ : List ℕ) {l l' s : List ℕ} {n r : ℕ} → Keeps l n s r l' → n ≤ length l → Kept n l₀ l → Kept r l₀ l'
kept_on l₀ {l} {n = n} {r} p h e =
    let k : r ≡ n + (r - n) = omega (arith, more h p) in
    p.rest ∙ rw (k, ← drop-drop (r - n) n l, ← drop-drop (r - n) n l₀, e)

-- ---- A byte taken. What the bytes from a place on make is P

pub next_end : {p : Partial} (a : List ℕ) (at : ℕ) {P : Progress} → length a ≤ at → next p (drop at a) ≡ P → going p ≡ P
unfolding next
next_end a at h e = rw drop_of_length-le at e

module _ (a : List ℕ) (at : ℕ) {l l' : List ℕ} {n r : ℕ} (h : at < length a) (p : Keeps l n (get_or a at 0 ∷ []) r l') {P : Progress} where
  module _ (long : length l ≡ 65537) (e : next (in_line (take n l)) (drop at a) ≡ P) where
    fed : after (line_fed (take r l') (get_or a at 0)) (drop (at + 1) a) ≡ P
    unfolding next feed kept
    fed = rw (p.bytes_kept, long, add-one) (rw (drop-cons a at 0) at e)

    pub line_on : (get_or a at 0 ≡ 10 → ⊥) → next (in_line (take r l')) (drop (at + 1) a) ≡ P
    unfolding line_fed through
    line_on k = rw (ne_eqb (get_or a at 0) 10 k) at fed

    pub line_ends : get_or a at 0 ≡ 10 → after (settled (take r l') [] (wants (take r l'))) (drop (at + 1) a) ≡ P
    unfolding line_fed
    line_ends k = rw (eq-eqb (get_or a at 0) 10 k) at fed

-- ---- A text. What the bytes make, whatever line of n bytes they come after, with m bytes of the text kept and w wanted

abbrev pub made : ℕ → List ℕ → List ℕ → ℕ → List ℕ → ℕ → ℕ → Progress
made n line p m a w at = after (settled (take n line) (take m p) w) (drop at a)

module _ (n m m₀ w w₀ at from : ℕ) (a p p₀ : List ℕ) (e : (line : List ℕ) → made n line p m a w at ≡ made n line p₀ m₀ a w₀ from) where
  pub text_on : at < length a → 0 < w → length p ≡ 65536 → {r : ℕ} {p' : List ℕ} → Keeps p m (get_or a at 0 ∷ []) r p'
      → (line : List ℕ) → made n line p' r a (w - 1) (at + 1) ≡ made n line p₀ m₀ a w₀ from
  unfolding settled through feed next kept
  text_on h k long q line =
      let s : w ≡ suc (w - 1) = omega arith in
      rw (q.bytes_kept, long, add-one) (rw (s, drop-cons a at 0) at (e line))

  pub text_part : length a ≤ at → 0 < w → (line : List ℕ) → going (part_of (take n line) (take m p) w) ≡ made n line p₀ m₀ a w₀ from
  unfolding settled through part_of next
  text_part h k line =
      let s : w ≡ suc (w - 1) = omega arith in
      rw s (rw (s, drop_of_length-le a {i = at}) at (e line))

  pub text_whole : w ≤ 0 → (line : List ℕ) → done (sent_of n m line p) (drop at a) ≡ made n line p₀ m₀ a w₀ from
  unfolding settled through
  text_whole k line = let z : w ≡ 0 = omega arith in rw z at (e line)

-- ---- A request, from as much of both lists as there is and a place of what has arrived

-- the place n of a list, or its end where that comes first
pub place_in : (l : List ℕ) (n r : ℕ) → r ≡ min n (length l) → PlaceIn l n r
place_in l n r is =
    by_test (leb n (length l))
    (λ e. let z : r ≡ n = omega (arith, leb-true _ _ e) in record { inside = omega (arith, leb-true _ _ e); first = rw z refl; rest = rw z refl })
    (λ e. let z : r ≡ length l = omega (arith, leb-false _ _ e) in record {
      inside = omega arith;
      first = rw (z, take-length) (sym (take_all n l (omega (arith, leb-false _ _ e))));
      rest = rw (z, drop-length) (sym (drop_of_length-le l {i = n} (omega (arith, leb-false _ _ e))));
    })

module _ (f : Frame) {a line : List ℕ} (payload : List ℕ) {from n start : ℕ} (l : PlaceIn line f.line n) (s : PlaceIn a from start) where
  pub text_goes : {m : ℕ} → PlaceIn payload f.payload m → 0 < f.wanted → {r : Framed} {payload' : List ℕ} → TakesText n m f.wanted a start payload r payload'
      → progress_of r a line payload' ≡ next (partial_of f line payload) (drop from a)
  unfolding settled through part_of
  text_goes p h t = let w : f.wanted ≡ suc (f.wanted - 1) = omega arith in t.progress line ∙ rw (l.first, p.first, s.rest, w)

  module _ (h : f.wanted ≤ 0) {k : ℕ × Option ℕ} {line' : List ℕ} (t : TakesLine n a start line k line') where
    line_goes : taken_of k.0 k.1 a line' ≡ next (partial_of f line payload) (drop from a)
    unfolding part_of
    line_goes = let w : f.wanted ≡ 0 = omega arith in t.progress ∙ rw (l.first, s.rest, w)

    pub line_advances : {at : ℕ} → k.1 ≡ Some at → {w : ℕ} → w ≡ wants (take k.0 line') → {r : Framed} {payload' : List ℕ}
        → TakesText k.0 0 w a at payload r payload' → Advances f a from line payload r line' payload'
    line_advances e i {r} p = let goes = rw i at (p.progress line') ∙ rw e at line_goes in let rest : Kept (line_in r) line line' = rw p.line t.rest in search

    pub part_goes : k.1 ≡ None → going (in_line (take k.0 line')) ≡ next (partial_of f line payload) (drop from a)
    part_goes e = rw e at line_goes

-- ---- What a host is given, by the test b

module _ (f : Frame) (a : List ℕ) (from : ℕ) (line payload : List ℕ) {b : Bool} (is : b ≡ ready f (length a) from) where
  pub host_refused : not b ≡ true → {r : Advanced} → r ≡ refused_frame → HostAdvances f a from line payload r line payload
  host_refused h e = rw (sym is ∙ not-true b h) (record { result = e; line_kept = refl; text_kept = refl })

  module _ (h : not b ≡ false) {line' payload' : List ℕ} {x : Framed} (d : Advances f a from line payload x line' payload') where
    host_told : (y : Framed) → x ≡ y → HostAdvances f a from line payload (advanced_of y (length a)) line' payload'
    host_told y e = rw (sym is ∙ not-false b h) (record { framed = x; advances = d; result = rw e })

    pub host_whole : (n m at : ℕ) → x ≡ Whole n m at → HostAdvances f a from line payload (record { outcome = 1; line = n; payload = m; wanted = 0; next = at }) line' payload'
    host_whole n m at e = host_told (Whole n m at) e

    pub host_part : (g : Frame) → x ≡ Part g
        → HostAdvances f a from line payload (record { outcome = 0; line = g.line; payload = g.payload; wanted = g.wanted; next = length a }) line' payload'
    host_part g e = host_told (Part g) e
