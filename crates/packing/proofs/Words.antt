-- A spell's words read back as the spell. Assumes nothing.
use Rattle.basis.proofs.Prelude.{◌≡◌, ap, refl, ◌+◌, ◌-◌, ◌<◌, ◌≤◌, ℕ, List, ◌++◌, drop, get_or, length, length-append, length-drop, List·getD-append, set, get_or-drop, add-zero, div-add-mod', add_five, add-four, add-one, add_six, add-three, add-two, arith, le-leb, lt-leb}
pub use Rattle.packing.specs.Words.{spell_long}
use Rattle.packing.proofs.{Blocks.put_sets, Names.{Grade, Is, Narrow, Put, Reading, Spell, Urgency, Val, binary32, blank, high, joined, kind_of, low, of_bits-to_bits, spell-row, spell_of, spell_width, spell_words, urgency-row, urgency_of, value_of}}

-- the words after a spell's own are not read
pub spell_near : (x r : List ℕ) → spell_width ≤ length x → spell_of (x ++ r) ≡ spell_of x
unfolding spell_of
spell_near x r h =
    let at : (i : ℕ) → i < spell_width → get_or (x ++ r) i 0 ≡ get_or x i 0 = λ i in-it. List·getD-append x r 0 i (omega arith) in
    simp (le-leb spell_width (length (x ++ r)) (omega (arith, length-append x r)), le-leb spell_width (length x) h)
    (simp (at 0 (omega arith), at 1 (omega arith), at 2 (omega arith), at 3 (omega arith), at 4 (omega arith), at 5 (omega arith), at 6 (omega arith)))

pub spell_reads : (s : Spell) (r : List ℕ) → spell_of (spell_words s ++ r) ≡ spell_of (spell_words s)
spell_reads s r = spell_near (spell_words s) r (omega (arith, spell_long s))

urgency_back : (u : Urgency) → Narrow u → urgency_of (kind_of u) (value_of u) ≡ u
unfolding urgency_of
urgency_back (Grade g) h = simp (le-leb g 65535 h)
urgency_back (Reading x) h = ap Reading (of_bits-to_bits binary32 x h)

-- THE IDENTITY of a spell: its words read back as it
pub spell_back : (s : Spell) → Narrow s.urgency → spell_of (spell_words s) ≡ s
unfolding spell_of spell_words
spell_back s h = rw (div-add-mod' (value_of s.urgency) 65536, urgency_back s.urgency h)

-- what the checker knows of every spell that a program holds: a grade is 16 bits wide, and a reading is a 32-bit float
held : (u : Urgency) (vs : List Val) → Is urgency-row u vs → Narrow u
held (Grade g) vs p = omega (arith, p.1)
held (Reading x) vs p = rw p.1.1.1.1.0.1 tt

pub spell_held : (s : Spell) (vs : List Val) → Is spell-row s vs → Narrow s.urgency
spell_held s vs p = held s.urgency _ p.1.1.1.1.1.1.0

-- ---- As the code reads and writes it: where there is room for a spell's words, and where there is none

-- the code's tests for k words at a place of n
module _ (n at k : ℕ) where
  pub fits : k ≤ n → at ≤ n - k → at + k ≤ n
  fits h j = omega arith

  pub too_few : n < k → n < at + k
  too_few h = omega arith

  pub too_far : n - k < at → n < at + k
  too_far h = omega arith

pub ruleset room = (fits, too_few, too_far)

pub spell_read : (l : List ℕ) (at : ℕ) {u : Urgency} {v : ℕ} → v ≡ joined (get_or l (at + 5) 0) (get_or l (at + 6) 0) → u ≡ urgency_of (get_or l (at + 4) 0) v
    → at + spell_width ≤ length l
    → record { number = get_or l at 0; candidate = get_or l (at + 1) 0; first = get_or l (at + 2) 0; last = get_or l (at + 3) 0; urgency = u } ≡ spell_of (drop at l)
unfolding spell_of
spell_read l at joins is h = simp (is, joins, le-leb spell_width (length (drop at l)) (omega (arith, length-drop at l)), get_or-drop, add-zero)

pub spell_none : (l : List ℕ) (at : ℕ) {s : Spell} → length l < at + spell_width → s ≡ blank → s ≡ spell_of (drop at l)
unfolding spell_of
spell_none l at h is = simp (is, lt-leb spell_width (length (drop at l)) (omega (arith, length-drop at l)))

-- seven stores put its words
pub spell_put : (s : Spell) (l : List ℕ) (at : ℕ) (vs : List Val) {kind value half other : ℕ}
    → Is spell-row s vs → at + spell_width ≤ length l → kind ≡ kind_of s.urgency → value ≡ value_of s.urgency → half ≡ low value → other ≡ high value
    → Put spell_words spell_of s at l
    (set (set (set (set (set (set (set l at s.number) (at + 1) s.candidate) (at + 2) s.first) (at + 3) s.last) (at + 4) kind) (at + 5) half) (at + 6) other)
spell_put s l at vs known h ek ev el eh = record {
  words = rw (ek, el, eh, ev, add-one, add-two, add-three, add-four, add_five, add_six) (unfold spell_words in put_sets at (spell_words s) l h);
  back = spell_back s (spell_held s vs known);
}
