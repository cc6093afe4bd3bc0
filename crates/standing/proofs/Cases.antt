-- Worked examples: the places of small arrays after an edit and after a take back. Assumes nothing.
use Rattle.basis.proofs.Prelude.{◌≡◌, refl, ℕ, List, [], ◌∷◌, false, true}
use Rattle.standing.proofs.Names.{Grade, Spell, earlier_of, stands, same_of, insert, insert_by, remove, replace, idle, enter_refusal, amend_refusal, strike_refusal, front_or, Undo, Standing, lead, blank_entry, entering, replacing, list_of, undo, past_of, after_edit, after_take_back}

-- Two of four spells stand, and one of three entries counts

abbrev spell : ℕ → ℕ → Spell
spell n d = record { number = n; candidate = n; first = d; last = d; urgency = Grade 1 }

abbrev a : Spell
a = spell 1 10

abbrev b : Spell
b = spell 2 20

abbrev standing : List Spell → ℕ → List Undo → ℕ → Standing
standing l n j d = record { spells = l; count = n; journal = j; depth = d }

abbrev st : Standing
st = standing (a ∷ b ∷ spell 3 30 ∷ spell 4 40 ∷ []) 2 (entering b ∷ entering (spell 5 50) ∷ blank_entry ∷ []) 1

-- a third spell goes between, over what the third place held; the next entry goes over what the second place held
entered : after_edit st false (enter_refusal (list_of st) (spell 6 15)) (insert (spell 6 15) (list_of st)) (entering (spell 6 15))
    ≡ standing (a ∷ spell 6 15 ∷ b ∷ spell 4 40 ∷ []) 3 (entering b ∷ entering (spell 6 15) ∷ blank_entry ∷ []) 2
unfolding enter_refusal insert_by earlier_of stands
entered = refl

-- the first spell goes: the second moves down, and its former place keeps it
struck : after_edit st false (strike_refusal (list_of st) 1) (remove 1 (list_of st)) (replacing 1 (list_of st))
    ≡ standing (b ∷ b ∷ spell 3 30 ∷ spell 4 40 ∷ []) 1 (entering b ∷ record { number = 1; stood = true; spell = a } ∷ blank_entry ∷ []) 2
unfolding strike_refusal remove stands lead
struck = refl

-- refused: every place is kept
unknown : after_edit st false (strike_refusal (list_of st) 3) (remove 3 (list_of st)) (replacing 3 (list_of st)) ≡ st
unfolding strike_refusal stands
unknown = refl

-- amended by itself: every place is kept
saved : after_edit st (idle (list_of st) b) (amend_refusal (list_of st) b) (replace b (list_of st)) (replacing 2 (list_of st)) ≡ st
unfolding idle same_of
saved = refl

-- the entry taken back stays in its place, past the depth
back : after_take_back st ≡ standing (a ∷ b ∷ spell 3 30 ∷ spell 4 40 ∷ []) 1 (entering b ∷ entering (spell 5 50) ∷ blank_entry ∷ []) 0
unfolding front_or past_of undo remove
back = refl
