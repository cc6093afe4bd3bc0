-- The names of other crates and of the definitions that the proofs use, passed on from one place. Assumes nothing.
pub use Prim.Native.Nat.{◌^◌}
pub use Rattle.basis.proofs.Prelude.{Bool, List, [], ◌%◌, ◌*◌, ◌+◌, ◌-◌, ◌/◌, ◌<◌, ◌∙◌, ◌∷◌, ◌≡◌, ◌≤◌, ap, arith, by_mark, by_test, drop, drop-cons, drop-length, eq-eqb, eqb, eqb-false, eqb-true, false, get_or, le-leb, le-ltb, leb, leb-true, length, length-drop, length-set, lt-leb, lt-ltb, ltb, ltb-false, ltb-true, ne_eqb, rules, not, not-false, not-true, refl, set, suc, sym, true, zero, ℕ}
pub use Rattle.decimals.specs.Clauses.{digits_text}
pub use Rattle.fields.{proofs.{Bytes.{digit_is, digit_range, ended_back, never}, Places.{here, past_end, said}, Puts.{Put, field_put, put_end, put_none, put_on, put_one, put_place, put_sized, puts_before, puts_past, puts_room}, Widths.{decimal_wide, digits_width, more, number_width}}, specs.{Answers.{Puts, Reads, answer_in}, Fields.{Found, end_before, found, is_digit, number_text, onward, read_length, read_number, unreadable, wide_text}}}
unfoldable pub use Rattle.fields.specs.Fields.{decimal_of, digits_of, numbers_text, passed, read_decimal, read_digits}
