-- The names of other crates and of the definitions that the proofs use, passed on from one place. Assumes nothing.
pub use Rattle.buffer.specs.Buffer.{over}
pub use Rattle.packing.specs.{Blocks.{Put, PutAll}, Layout.spell_width, Words.{Narrow, high, joined, kind_of, low, spell_long, value_of}}
pub use Rattle.spell.specs.contracts.Spell.{the_row as spell-row}
pub use Rattle.spell.specs.contracts.Urgency.{the_row as urgency-row}
pub use Rattle.spell.{specs.{Blank.blank, declared.{Spell.Spell, Urgency.{Urgency, TheVariants.{Grade, Reading}}}}}
pub use denote.Laws.{Is}
pub use lib.Ieee.{Bits.of_bits-to_bits, binary32}
pub use mir.Val.{Val}
pub use native.Mathlib.Nat.{mul_comm}
unfoldable pub use Rattle.packing.specs.{Blocks.{Every, parts, put, written}, Words.{spell_of, spell_words, urgency_of}}
unfoldable pub use lib.Ieee.{of_bits, to_bits}
