-- The state of a reading after some lines, one line more, and the answer at each way out. Assumes nothing.
use mathlib.Core.Bool.{or-true, or-false}
use Rattle.basis.proofs.Prelude.{◌∙◌, ◌≡◌, ap, sym, ◌+◌, ◌-◌, ◌<◌, ◌≤◌, suc, ℕ, List, [], ◌++◌, ◌∷◌, Bool, ◌||◌, false, not, true, eqb, drop, drop_of_length-le, get_or, get_or-replicate, length, length-drop, length-replicate, length-set, replicate, set, take, take-append-drop, drop-drop, drop-set-lt, get_or-set_other, get_or-set_same, length-take-le, take-suc-set, add-one, arith, eqb-false, eqb-true, le-leb, lt-leb, lt-ltb, ne_eqb, by_test, not-false, not-true}
use Rattle.spell.{specs.{declared.Spell.Spell, Entry.refusal_of, Order.earlier_of, Listing.stands, Blank.blank}, proofs.{Entered.entered, Listing.stands_more}}
use Rattle.std.specs.Prelude.{Option, Some, None}
use Rattle.register.{specs.{Text.{read_line, follows, line_refusal, bad, read_lines, read_text}, Answers.{Read, reading_of}}, proofs.{Ordered.follows_more, Texts.{after, not_refused, lines_end, lines_malformed, lines_refused, lines_on}}}
use Rattle.fields.{specs.Answers.Reads, proofs.Places.said}

pub record State (text : List ℕ) (spells : List Spell) (seen : List Bool) (before : Spell) (count at : ℕ) : Type 0 where
  pub few : count ≤ 1024
  pub room : length spells ≡ 1024
  pub wide : length seen ≡ 65536
  pub unused : drop count spells ≡ replicate (1024 - count) blank
  pub marked : (k : ℕ) → k < 65536 → get_or seen k false ≡ stands (take count spells) k
  pub last : (x : Spell) → refusal_of x ≡ 0 → earlier_of before x ≡ follows (take count spells) x
  pub so_far : read_text text ≡ read_lines (1024 - count) (take count spells) (drop at text)

-- what a refused reading tells
abbrev refusing : ℕ → ℕ → Read
refusing k line = record { spells = replicate 1024 blank; count = 0; refusal = k; line = line }

-- ---- at the start
blank_earlier : (x : Spell) → refusal_of x ≡ 0 → earlier_of blank x ≡ true
unfolding earlier_of
blank_earlier x h =
    let e = entered x h in
    let above : 0 < x.first = e.first_up in
    rw (ne_eqb 0 x.first (λ z. omega arith), lt-ltb 0 x.first above)

pub text_long : (text : List ℕ) → 65536 < length text → refusing 12 0 ≡ reading_of (read_text text)
text_long text h = unfold read_text reading_of in rw (lt-leb (length text) 65536 h)

pub begin : (text : List ℕ) (none first : Spell) → length text ≤ 65536 → none ≡ blank → first ≡ blank → State text (replicate 1024 none) (replicate 65536 false) first 0 0
begin text none first h e f = unfold stands follows read_text in record {
  few = omega arith;
  room = length-replicate 1024 none;
  wide = length-replicate 65536 false;
  unused = ap (replicate 1024) e;
  marked = λ k l. get_or-replicate 65536 k false false l;
  last = λ x o. ap (λ (s : Spell). earlier_of s x) f ∙ blank_earlier x o;
  so_far = rw (le-leb (length text) 65536 h);
}

-- ---- one line more
pub marked_more : (seen : List Bool) (n k : ℕ) (t : Bool) → n < length seen → get_or seen k false ≡ t → get_or (set seen n true) k false ≡ t || eqb n k
marked_more seen n k t h m = by_test (eqb n k)
    (λ e. rw (e, or-true, ← eqb-true n k e) (get_or-set_same seen n true false h))
    (λ e. rw (e, or-false) (get_or-set_other seen n k true false (λ z. eqb-false n k e (sym z)) ∙ m))

module _ (text : List ℕ) (spells : List Spell) (seen : List Bool) (before : Spell) (count at : ℕ) (st : State text spells seen before count at) where
  so_many : length (take count spells) ≡ count
  so_many = length-take-le count spells (omega arith)

  answered : (k : ℕ) → read_lines (1024 - count) (take count spells) (drop at text) ≡ bad k (length (take count spells) + 1) → refusing k (count + 1) ≡ reading_of (read_text text)
  answered k h = unfold reading_of in rw (st.so_far, h, so_many)

  -- the answer of a text whose lines all pass, as the program gives it
  pub gives : length text ≤ at → record { spells = spells; count = count; refusal = 0; line = 0 } ≡ reading_of (read_text text)
  gives h = unfold reading_of in rw (st.so_far, drop_of_length-le text h, lines_end (1024 - count) (take count spells), so_many, ← st.unused, take-append-drop count spells)

  module _ (x : Option (Spell × ℕ)) (p : Reads text x (read_line (drop at text))) where
    pub is_malformed : at < length text → x ≡ None → refusing 12 (count + 1) ≡ reading_of (read_text text)
    is_malformed h m = answered 12 (lines_malformed (1024 - count) (take count spells) (drop at text) (omega (arith, length-drop at text)) (said p m))

    module _ (s : Spell) (next : ℕ) (v : x ≡ Some (s, next)) where
      by_refusal : (k : ℕ) → line_refusal (take count spells) s ≡ k → (k ≡ 0 → ⊥) → refusing k (count + 1) ≡ reading_of (read_text text)
      by_refusal k h z =
          answered k (rw h at (lines_refused (take count spells) (drop at text) s (drop next text) (said p v) (1024 - count) (ne_eqb (line_refusal (take count spells) s) 0 (λ o. z (sym h ∙ o)))))

      pub refuses_entry : (n : ℕ) → n ≡ refusal_of s → (n ≡ 0 → ⊥) → refusing n (count + 1) ≡ reading_of (read_text text)
      refuses_entry n is z = unfold line_refusal in by_refusal n (rw (← is, ne_eqb n 0 z)) z

      module _ (ok : 0 ≡ refusal_of s) (low : s.number < 65536) (n : ℕ) (is : n ≡ s.number) where
        small : n < 65536
        small = omega arith

        pub refuses_taken : get_or seen n false ≡ true → refusing 6 (count + 1) ≡ reading_of (read_text text)
        refuses_taken t = unfold line_refusal in by_refusal 6 (rw (sym ok, ← is, sym (st.marked n small) ∙ t)) (λ z. omega arith)

        module _ (free : get_or seen n false ≡ false) (b : Bool) (t : b ≡ earlier_of before s) where
          new : stands (take count spells) s.number ≡ false
          new = rw (← is) (sym (st.marked n small) ∙ free)

          follow : b ≡ follows (take count spells) s
          follow = t ∙ st.last s (sym ok)

          pub refuses_misplaced : not b ≡ true → refusing 13 (count + 1) ≡ reading_of (read_text text)
          refuses_misplaced f = unfold line_refusal in by_refusal 13 (rw (sym ok, new, sym follow ∙ not-true b f)) (λ z. omega arith)

          module _ (ahead : not b ≡ false) where
            on : (room : ℕ) → read_lines room (take count spells) (drop at text) ≡ after room (take count spells) s (drop next text)
            on room = lines_on (take count spells) (drop at text) s (drop next text) (said p v) room
                (not_refused (take count spells) s (sym ok) new (sym follow ∙ not-false b ahead))

            pub refuses_full : count ≡ 1024 → refusing 8 (count + 1) ≡ reading_of (read_text text)
            refuses_full f = let full : 1024 - count ≡ 0 = omega arith in answered 8 (rw full (on 0))

            pub goes_on : (count ≡ 1024 → ⊥) → State text (set spells count s) (set seen n true) s (count + 1) next
            goes_on f =
                let more : take (count + 1) (set spells count s) ≡ take count spells ++ (s ∷ []) = rw add-one (take-suc-set spells count s (omega arith)) in
                let left : 1024 - count ≡ suc (1024 - (count + 1)) = omega arith in
                let unused = rw left at (drop-set-lt (count + 1) spells count s (omega arith) ∙ sym (drop-drop 1 count spells) ∙ ap (drop 1) st.unused) in
                let marked : (k : ℕ) → k < 65536 → get_or (set seen n true) k false ≡ stands (take (count + 1) (set spells count s)) k
                = λ k l. rw (more, stands_more (take count spells) s k, ← is) (marked_more seen n k (stands (take count spells) k) (omega arith) (st.marked k l)) in
                let last : (x : Spell) → earlier_of s x ≡ follows (take (count + 1) (set spells count s)) x = λ x. rw more (follows_more (take count spells) s x) in
                let so_far = rw (left, ← more) at (st.so_far ∙ on (1024 - count)) in
                search (length-set, arith)
