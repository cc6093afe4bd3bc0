-- Worked examples: the number that a call is about, and the depth of a journal. Assumes nothing.
use Rattle.basis.proofs.Prelude.{◌≡◌, refl, ℕ, List, [], ◌∷◌, map, false, true}
use Rattle.spell.specs.declared.{Spell.Spell, Urgency.TheVariants.Grade}
use Rattle.model.specs.declared.Call.{Call, TheVariants.{Enter, Amend, Strike, TakeBack, Publish, Write}}
use Rattle.plans.specs.Plans.{number_of, deeper_by}

abbrev spell : ℕ → Spell
spell k = record { number = k; candidate = 40; first = 50; last = 60; urgency = Grade 1 }

-- the newest entry is of the number 7
abbrev about : List Call → List ℕ
about calls = map (λ (c : Call). number_of c 7) calls

numbers : about (Enter (spell 3) ∷ Amend (spell 4) ∷ Strike 5 ∷ TakeBack ∷ Publish 1 ∷ Write ∷ []) ≡ 3 ∷ 4 ∷ 5 ∷ 7 ∷ 0 ∷ 0 ∷ []
numbers = unfold number_of in refl

-- one entry more, and none more
depths : deeper_by 0 true ∷ deeper_by 63 true ∷ deeper_by 64 true ∷ deeper_by 0 false ∷ deeper_by 63 false ∷ [] ≡ 1 ∷ 64 ∷ 64 ∷ 0 ∷ 63 ∷ []
depths = refl
