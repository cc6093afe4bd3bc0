-- What stands in a place that holds no spell. Assumes nothing.
use Rattle.spell.specs.declared.Urgency.TheVariants.{Grade}
use Rattle.spell.specs.declared.Spell.{Spell}

-- a spell of zeros
abbrev pub blank : Spell
blank = record { number = 0; candidate = 0; first = 0; last = 0; urgency = Grade 0 }
