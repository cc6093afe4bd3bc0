-- Worked examples: a spell's words at the edges of its numbers, and the urgency of a kind and a value. Assumes nothing.
use Rattle.basis.proofs.Prelude.{◌≡◌, refl, ℕ, List, [], ◌∷◌}
use Rattle.packing.proofs.Names.{Grade, Reading, Spell, Urgency, binary32, blank, of_bits, spell_of, spell_words, to_bits, urgency_of}

-- five fields that differ, each of more than 8 bits
abbrev of : Urgency → Spell
of u = record { number = 65535; candidate = 0x0102; first = 0x0304; last = 0x0506; urgency = u }

abbrev words : ℕ → ℕ → ℕ → List ℕ
words kind low high = 65535 ∷ 0x0102 ∷ 0x0304 ∷ 0x0506 ∷ kind ∷ low ∷ high ∷ []

-- the reading whose bits have two halves that differ
abbrev reading : Urgency
reading = Reading (of_bits binary32 0x3F80_0001)

-- a spell to its words
written :
    (spell_words (of (Grade 65535)) ≡ words 0 65535 0)
    × (spell_words (of (Grade 0x0708)) ≡ words 0 0x0708 0)
    × (spell_words (of reading) ≡ words 1 0x0001 0x3F80)
unfolding spell_words to_bits of_bits
written = (refl, refl, refl)

-- words to a spell
read :
    (spell_of (words 0 65535 0) ≡ of (Grade 65535))
    -- what comes after the seven is not read
    × (spell_of (65535 ∷ 0x0102 ∷ 0x0304 ∷ 0x0506 ∷ 0 ∷ 0x0708 ∷ 0 ∷ 9 ∷ []) ≡ of (Grade 0x0708))
    × (spell_of (words 1 0x0001 0x3F80) ≡ of reading)
    -- a grade of more than 16 bits is not cut, and six words are no spell
    × (spell_of (words 0 1 1) ≡ of (Grade 0))
    × (spell_of (1 ∷ 2 ∷ 3 ∷ 4 ∷ 0 ∷ 1 ∷ []) ≡ blank)
unfolding spell_of urgency_of
read = (refl, refl, refl, refl, refl)

-- a kind and a value to an urgency
urgencies :
    (urgency_of 0 65535 ≡ Grade 65535)
    × (urgency_of 0 65536 ≡ Grade 0)
    × (urgency_of 0 65537 ≡ Grade 0)
    × (urgency_of 1 0x3F80_0001 ≡ reading)
    × (urgency_of 2 1 ≡ Grade 0)
unfolding urgency_of
urgencies = (refl, refl, refl, refl, refl)
