-- A spell in seven words, and the spell of any words. Assumes nothing.
use Rattle.std.specs.Prelude.{ℕ, ◌+◌, ◌*◌, ◌/◌, ◌%◌, ◌≤◌, ◌≡◌, refl, cond, List, [], ◌∷◌, T, leb, eqb, length, get_or}
use Rattle.std.specs.Float.{binary32}
use Rattle.std.specs.Float.Ieee.{fits, to_bits, of_bits}
use Rattle.spell.specs.declared.Urgency.{Urgency}
use Rattle.spell.specs.declared.Urgency.TheVariants.{Grade, Reading}
use Rattle.spell.specs.declared.Spell.{Spell}
use Rattle.spell.specs.Blank.{blank}
use Rattle.packing.specs.Layout.{spell_width}

-- ---- An urgency in two numbers

abbrev pub kind_of : Urgency → ℕ
kind_of (Grade g) = 0
kind_of (Reading x) = 1

abbrev pub value_of : Urgency → ℕ
value_of (Grade g) = g
value_of (Reading x) = to_bits binary32 x

-- a grade above 65,535, and any other kind, is the grade 0
unfoldable pub urgency_of : ℕ → ℕ → Urgency
urgency_of kind value =
    cond (eqb kind 1) (Reading (of_bits binary32 value))
    (cond (eqb kind 0) (cond (leb value 65535) (Grade value) (Grade 0)) (Grade 0))

-- an urgency that two numbers hold: a grade of 16 bits, or a reading that is a 32-bit float
abbrev pub Narrow : Urgency → Type 0
Narrow (Grade g) = g ≤ 65535
Narrow (Reading x) = T (fits binary32 x)

abbrev pub low : ℕ → ℕ
low value = value % 65536

abbrev pub high : ℕ → ℕ
high value = value / 65536

abbrev pub joined : ℕ → ℕ → ℕ
joined a b = b * 65536 + a

-- ---- A spell in seven words

unfoldable pub spell_words : Spell → List ℕ
spell_words s =
    s.number ∷ s.candidate ∷ s.first ∷ s.last ∷ kind_of s.urgency ∷ low (value_of s.urgency) ∷ high (value_of s.urgency) ∷ []

pub spell_long : (s : Spell) → length (spell_words s) ≡ spell_width
unfolding spell_words
spell_long s = refl

-- the spell of the first seven words; one of zeros where there are fewer
unfoldable pub spell_of : List ℕ → Spell
spell_of l =
    cond (leb spell_width (length l))
    (record {
      number = get_or l 0 0;
      candidate = get_or l 1 0;
      first = get_or l 2 0;
      last = get_or l 3 0;
      urgency = urgency_of (get_or l 4 0) (joined (get_or l 5 0) (get_or l 6 0));
    })
    blank
