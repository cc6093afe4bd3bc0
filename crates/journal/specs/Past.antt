-- The earlier standing lists that the entries of a journal give. Assumes nothing.
use Rattle.std.specs.Prelude.{ℕ, true, false, cond, List, [], ◌∷◌, get_or}
use Rattle.spell.specs.declared.Spell.{Spell}
use Rattle.spell.specs.Blank.{blank}
use Rattle.spell.specs.Listing.{Good}
use Rattle.model.specs.Edits.{insert, remove}
use Rattle.spell_places.specs.Search.{stands_at}
use Rattle.journal.specs.declared.Undo.{Undo}

-- one edit taken back: the number's spell goes, and the one that stood before the edit, if one did, is put in
unfoldable pub undo : Undo → List Spell → List Spell
undo e l = cond e.stood (insert e.spell (remove e.number l)) (remove e.number l)

-- the earlier standing lists that entry after entry gives, newest first
unfoldable pub past_of : List Spell → List Undo → List (List Spell)
past_of l [] = []
past_of l (e ∷ es) = undo e l ∷ past_of (undo e l) es

-- each list of the past can stand
unfoldable pub Goods : List (List Spell) → Type 0
Goods [] = Unit {0}
Goods (l ∷ past) = Good l × Goods past

-- ---- The entry of an edit

-- s is entered: no spell stood under its number; the entry holds s
abbrev pub entering : Spell → Undo
entering s = record { number = s.number; stood = false; spell = s }

-- the spell of the number k goes from the list l, by an amend or a strike: the entry holds it
abbrev pub replacing : ℕ → List Spell → Undo
replacing k l = record { number = k; stood = true; spell = get_or l (stands_at k l) blank }
