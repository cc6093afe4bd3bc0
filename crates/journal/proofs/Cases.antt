-- Worked examples: an entry's words. Assumes nothing.
use Rattle.basis.proofs.Prelude.{◌≡◌, refl, ℕ, List, [], ◌∷◌, true}
use lib.Ieee.{binary32, of_bits, to_bits}
use Rattle.spell.specs.declared.Urgency.TheVariants.{Reading}
use Rattle.packing.specs.Words.{spell_words, spell_of, urgency_of}
use Rattle.journal.specs.{declared.Undo.Undo, Journal.blank_entry, Words.{entry_words, entry_of}}

abbrev entry : Undo
entry = record { number = 0x0102; stood = true; spell = record { number = 65535; candidate = 0x0304; first = 0x0506; last = 0x0708; urgency = Reading (of_bits binary32 0x3F80_0001) } }

abbrev words : List ℕ
words = 0x0102 ∷ 1 ∷ 65535 ∷ 0x0304 ∷ 0x0506 ∷ 0x0708 ∷ 1 ∷ 0x0001 ∷ 0x3F80 ∷ []

entry_written : entry_words entry ≡ words
entry_written = unfold entry_words spell_words to_bits of_bits in refl

entry_read : entry_of words ≡ entry
entry_read = unfold entry_of spell_of urgency_of in refl

none_written : entry_words blank_entry ≡ 0 ∷ 0 ∷ 0 ∷ 0 ∷ 0 ∷ 0 ∷ 0 ∷ 0 ∷ 0 ∷ []
none_written = unfold entry_words spell_words in refl
