-- What the rules do to a spell: rule 1 nothing, rule 2 cuts a reading within its own days. Assumes nothing.
use Rattle.basis.proofs.Prelude.{◌≡◌, refl, ◌≤◌, ℕ, eqb, arith, le-leb, le-ltb, by_cases}
use Rattle.spell.{specs.{declared.{Urgency.{Urgency, TheVariants.{Grade, Reading}}, Spell.Spell}, Entry.refusal_of, Listing.Sound}, proofs.Entered.{past, entered}}
use Rattle.rules.specs.Rules.{lapsed, lapsed_last, last_of, cut}

-- RULE 1 publishes each spell as entered
pub as_entered : (s : Spell) → cut 1 s ≡ s
as_entered s = unfold last_of in refl

-- RULE 2: a grade as entered
pub grade_kept : (s : Spell) (g : ℕ) → s.urgency ≡ Grade g → last_of 2 s ≡ s.last
grade_kept s g e = unfold last_of in rw e

-- a reading until the earlier of its last day and its first day + 6
pub reading_lapses : (s : Spell) {x : _} → s.urgency ≡ Reading x → last_of 2 s ≡ lapsed s.first s.last
reading_lapses s e = unfold last_of in rw e

-- ---- A cut day is between the first and the last

urgency_within : (first last : ℕ) → first ≤ last → (u : Urgency) → (first ≤ lapsed_last u first last) × (lapsed_last u first last ≤ last)
urgency_within first last forward (Grade g) = omega arith
urgency_within first last forward (Reading x) = omega arith

pub last_within : (rule : ℕ) (s : Spell) → s.first ≤ s.last → (s.first ≤ last_of rule s) × (last_of rule s ≤ s.last)
last_within rule s h = unfold last_of in by_cases (λ d. (s.first ≤ d) × (d ≤ s.last)) (eqb rule 2)
    (λ _. urgency_within s.first s.last h s.urgency)
    (λ _. (h, omega arith))

-- ---- A spell that passes the checks 1 to 5 passes them when it is published

pub cut_passes : (rule : ℕ) (s : Spell) → refusal_of s ≡ 0 → refusal_of (cut rule s) ≡ 0
cut_passes rule s e =
    let g = entered s e in
    let w = last_within rule s g.forward in
    let p1 = past (eqb s.number 0) 0 _ e in
    let p2 = past (eqb s.candidate 0) 1 _ p1.1 in
    rw (p1.0, p2.0, le-leb 1 s.first g.first_up, le-leb s.first 4000 g.first_day, le-leb 1 (last_of rule s) (omega arith), le-leb (last_of rule s) 4000 (omega arith), le-ltb (last_of rule s) s.first w.0, g.urgent)

pub cut_sound : (rule : ℕ) (s : Spell) → Sound s → Sound (cut rule s)
cut_sound rule s g = record { numbered = g.numbered; named = g.named; held = g.held; entered = cut_passes rule s g.entered }
