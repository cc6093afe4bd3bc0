-- The layout of a standing list's words: its spells, its journal, the count and the depth. Assumes nothing.
use Rattle.std.specs.Prelude.{ℕ, ◌+◌, ◌*◌}

-- how many words a spell takes, and an entry of the journal, which holds a spell and two words more
abbrev pub spell_width : ℕ
spell_width = 7

abbrev pub entry_width : ℕ
entry_width = spell_width + 2

-- the words of all 1,024 spells, behind which those of the 64 entries stand
abbrev pub spells_length : ℕ
spells_length = 1024 * spell_width

abbrev pub journal_length : ℕ
journal_length = 64 * entry_width

-- where the last entry of a full journal begins, from the journal's first word on
abbrev pub last_entry : ℕ
last_entry = 63 * entry_width

-- where the count and the depth stand, and the words in all
abbrev pub count_place : ℕ
count_place = spells_length + journal_length

abbrev pub depth_place : ℕ
depth_place = count_place + 1

abbrev pub standing_length : ℕ
standing_length = depth_place + 1
