-- The entries of a journal, newest first, and what one more leaves in all its places. Assumes nothing.
use Rattle.std.specs.Prelude.{ℕ, ◌-◌, false, List, ◌∷◌, reverse, get_or, take}
use Rattle.buffer.specs.Buffer.{over}
use Rattle.spell.specs.Blank.{blank}
use Rattle.journal.specs.declared.Undo.{Undo}

-- a place of the journal that holds no entry
abbrev pub blank_entry : Undo
blank_entry = record { number = 0; stood = false; spell = blank }

-- the entries of the first d places, newest first
abbrev pub newest_first : ℕ → List Undo → List Undo
newest_first d j = reverse (take d j)

-- the place of the newest of d entries, or the first place
abbrev pub last_place : ℕ → ℕ
last_place d = d - 1

-- the newest of d entries, or what the first place holds
abbrev pub newest_of : ℕ → List Undo → Undo
newest_of d j = get_or j (last_place d) blank_entry

-- the entry e goes to the front, and a 65th falls off
abbrev pub noted : Undo → List Undo → List Undo
noted e es = take 64 (e ∷ es)

-- the entry e noted among the first d places of the journal j
abbrev pub noting : Undo → ℕ → List Undo → List Undo
noting e d j = over (reverse (noted e (newest_first d j))) j
