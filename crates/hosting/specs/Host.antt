-- What a host's structs and words stand for. Assumes nothing.
use Rattle.std.specs.Prelude.{ℕ, ◌≡◌, List}
use Rattle.spell.specs.declared.Spell.{Spell}
use Rattle.packing.specs.Words.{urgency_of}
use Rattle.service.specs.Packed.{packed, unpacked}
use Rattle.service.specs.Service.{Valid, Begun}
use Rattle.outcomes.specs.declared.Outcome.{Outcome}
use Rattle.service.specs.declared.Stepped.{Stepped}
use Rattle.hosting.specs.declared.Entry.{Entry}
use Rattle.hosting.specs.declared.Reply.{Reply}
use Rattle.hosting.specs.declared.Opened.{Opened}

-- the version of the exported functions and of the two blocks
abbrev pub version : ℕ
version = 4

-- the words of a service that the calls gave
abbrev pub Held : List ℕ → Type 0
Held words = Valid (unpacked words)

-- every word of a block that a call wrote: the words are those of the service that they hold
abbrev pub Laid : List ℕ → Type 0
Laid words = words ≡ packed (unpacked words)

-- the spell that a host gives
abbrev pub spell_in : Entry → Spell
spell_in e = record { number = e.number; candidate = e.candidate; first = e.first; last = e.last; urgency = urgency_of e.kind e.value }

-- a reply is a call's outcome
abbrev pub outcome_of : Reply → Outcome
outcome_of r = record { refusal = r.refusal; count = r.count; comparisons = r.comparisons; length = r.length; ticked = r.ticked }

-- a reply, and the words that a call leaves: what the call gave
abbrev pub stepped_of : List ℕ → Reply → Stepped
stepped_of words r = record { service = unpacked words; outcome = outcome_of r }

-- the same of a reading
abbrev pub started_of : List ℕ → Opened → Begun
started_of words r = record { service = unpacked words; refusal = r.refusal; line = r.line }
