-- The rules of publishing: under rule 2 a measured reading counts for seven days only. Assumes nothing.
use Rattle.std.specs.Prelude.{ℕ, ◌+◌, min, Bool, ◌||◌, cond, eqb}
use Rattle.spell.specs.declared.Urgency.{Urgency}
use Rattle.spell.specs.declared.Urgency.TheVariants.{Grade, Reading}
use Rattle.spell.specs.declared.Spell.{Spell}

-- rule 1 or rule 2
abbrev pub is_rule : ℕ → Bool
is_rule rule = eqb rule 1 || eqb rule 2

-- the earlier of the last day and the first day + 6
abbrev pub lapsed : ℕ → ℕ → ℕ
lapsed first last = min last (first + 6)

-- the last day under rule 2: a reading lapses, grades are not touched
abbrev pub lapsed_last : Urgency → ℕ → ℕ → ℕ
lapsed_last (Grade g) first last = last
lapsed_last (Reading x) first last = lapsed first last

-- the last day with which a spell is published; under rule 1 all is as entered
unfoldable pub last_of : ℕ → Spell → ℕ
last_of rule s = cond (eqb rule 2) (lapsed_last s.urgency s.first s.last) s.last

-- the spell with that last day
abbrev pub cut : ℕ → Spell → Spell
cut rule s = record { number = s.number; candidate = s.candidate; first = s.first; last = last_of rule s; urgency = s.urgency }
