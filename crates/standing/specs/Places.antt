-- All places of a standing list's arrays, used or not: what stands in each after a call. Assumes nothing.
use Rattle.std.specs.Prelude.{List, reverse, length, replicate}
use Rattle.buffer.specs.Buffer.{over}
use Rattle.spell.specs.declared.Spell.{Spell}
use Rattle.spell.specs.Blank.{blank}
use Rattle.register.specs.Answers.{Read}
use Rattle.journal.specs.declared.Undo.{Undo}
use Rattle.journal.specs.Journal.{blank_entry}
use Rattle.standing.specs.declared.Standing.{Standing}
pub use Rattle.journal.specs.Journal.{noted}
pub use Rattle.journal.specs.Past.{entering, replacing}

-- ---- Values in the first places

-- the standing list becomes l
abbrev pub relisted : Standing → List Spell → Standing
relisted st l = record { spells = over l st.spells; count = length l; journal = st.journal; depth = st.depth }

-- the entries of the journal become es, newest first
abbrev pub rejournaled : Standing → List Undo → Standing
rejournaled st es = record { spells = st.spells; count = st.count; journal = over (reverse es) st.journal; depth = length es }

-- the list l and the entries es
abbrev pub holding : Standing → List Spell → List Undo → Standing
holding st l es = rejournaled (relisted st l) es

-- ---- The beginning

-- a fresh start
abbrev pub fresh_standing : Standing
fresh_standing = record { spells = replicate 1024 blank; count = 0; journal = replicate 64 blank_entry; depth = 0 }

-- the spells of a reading, over a fresh start
abbrev pub loaded_of : Read → Standing
loaded_of g = record { spells = g.spells; count = g.count; journal = fresh_standing.journal; depth = 0 }
