-- The four questions over a published list: which spells fit, and the looks of a question (document 01, "The four questions"
-- and "The tree and its looks"). Assumes nothing.
use Rattle.std.specs.Prelude.{ℕ, Bool, true, false, ◌&&◌, ◌||◌, cond, List, [], ◌∷◌, map, leb, ltb, length}
use Rattle.spell.specs.declared.Spell.{Spell}
use Rattle.calendar.specs.Calendar.{is_day}
use Rattle.stabbing.specs.Tree.{keep, fits_at, start, formula}

-- ---- Which spells fit

-- first ≤ h and last ≥ l
abbrev pub reaches : ℕ → ℕ → Spell → Bool
reaches h l s = leb s.first h && leb l s.last

-- day d: first ≤ d ≤ last
abbrev pub on_day : ℕ → Spell → Bool
on_day d = reaches d d

-- span a to b: first ≤ b and last ≥ a
abbrev pub on_span : ℕ → ℕ → Spell → Bool
on_span a b = reaches b a

-- cover of the spell x: first ≤ its first and last ≥ its last
abbrev pub covers : Spell → Spell → Bool
covers x = reaches x.first x.last

-- days: at least one of them
unfoldable pub on_any : List ℕ → Spell → Bool
on_any [] s = false
on_any (d ∷ ds) s = on_day d s || on_any ds s

-- ---- Lists of days

-- strictly rising
unfoldable pub rising : List ℕ → Bool
rising [] = true
rising (d ∷ []) = true
rising (d ∷ e ∷ ds) = ltb d e && rising (e ∷ ds)

-- ---- The answer

-- the spells that pass the test, in the order
unfoldable pub filter : (Spell → Bool) → List Spell → List Spell
filter t [] = []
filter t (s ∷ l) = cond (t s) (s ∷ filter t l) (filter t l)

-- their numbers
abbrev pub listed : (Spell → Bool) → List Spell → List ℕ
listed t l = map (λ (s : Spell). s.number) (filter t l)

abbrev pub firsts_of : List Spell → List ℕ
firsts_of l = map (λ (s : Spell). s.first) l

abbrev pub lasts_of : List Spell → List ℕ
lasts_of l = map (λ (s : Spell). s.last) l

-- document 01's looks, by the formula over the tree of the list, for the spells with first ≤ h and last ≥ l
unfoldable pub comparisons_of : ℕ → ℕ → List Spell → ℕ
comparisons_of h l p =
    formula (firsts_of p) (lasts_of p) (start (firsts_of p) (lasts_of p) h l) (keep (fits_at (firsts_of p) (lasts_of p) h l) (length p))
