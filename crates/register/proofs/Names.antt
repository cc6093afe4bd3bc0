-- The names of other crates and of the definitions that the proofs use, passed on from one place. Assumes nothing.
pub use Rattle.basis.proofs.Prelude.{List, [], ◌&&◌, ◌*◌, ◌++◌, ◌+◌, ◌<◌, ◌∙◌, ◌∷◌, ◌≡◌, ◌≤◌, ap, append-nil, append_snoc, arith, both, by_test, eq-eqb, eqb, eqb-false, eqb-true, false, le-leb, leb, leb-true, length, length-append, not, refl, suc, sym, true, zero, ℕ}
pub use Rattle.decimals.proofs.{Claims.number_read, Decimals.write_number}
pub use Rattle.fields.{proofs.{Bytes.{by_found, ended_back, never}, Widths.{decimal_width, hex_width, short_width}}, specs.Fields.{Found, found, onward, read_bits, read_number, unreadable}}
unfoldable pub use Rattle.fields.specs.Fields.{decimal_of, digits_of, hex_digit, hex_of, hex_value, passed, read_decimal, read_digits, read_hex}
pub use Rattle.hexadecimals.proofs.{Claims.bits_read, Hex.write_bits}
pub use Rattle.register.specs.Text.{Register, bad, good, urgency_text, write_all}
unfoldable pub use Rattle.register.specs.Text.{follows, line_answer, line_refusal, line_text, next_line, read_letter, read_line, read_lines, read_text, read_urgency, read_value, text_onto}
pub use Rattle.spell.{proofs.{Entered.entered, Listing.{distinct_fresh, distinct_more}}, specs.{Entry.{refusal_of, urgency_ok}, Listing.{Good, HeldUrgency, Sound}, Order.ordered, declared.{Spell.Spell, Urgency.{Urgency, TheVariants.{Grade, Reading}}}}}
unfoldable pub use Rattle.spell.specs.{Listing.{Each, distinct, stands}, Order.{earlier_of, ordered_by}}
pub use lib.Ieee.{binary32, Bits.{of_bits-fits, of_bits-to_bits, to_bits-of_bits}}
unfoldable pub use lib.Ieee.{is_nan, of_bits, to_bits}
