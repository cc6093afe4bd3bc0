-- The names of other crates and of the definitions that the proofs use, passed on from one place. Assumes nothing.
pub use Rattle.buffer.specs.Buffer.{over}
pub use Rattle.fields.specs.Fields.{Found, found, read_bits, read_number, unreadable}
unfoldable pub use Rattle.fields.specs.Fields.{decimal_of, digits_of, hex_digit, hex_of, passed, read_decimal, read_digits}
unfoldable pub use Rattle.model.specs.Questions.{rising}
unfoldable pub use Rattle.orders.specs.Orders.{is_in_order_by, insert_by, sorted_by}
pub use Rattle.register.{proofs.Lines.{read_line_lem, step, write_letter, write_line}, specs.Text.{good, write_all}}
unfoldable pub use Rattle.register.specs.Text.{line_text, read_letter, read_line, read_text, read_urgency, read_value, text_onto}
pub use Rattle.repairing.specs.{Answers.{Repairs, either, repair_given, repair_refused}, Repair.{Remark, begun, kept_of, put_of, remarks_of, repaired_text}, declared.HostRepaired.HostRepaired}
unfoldable pub use Rattle.repairing.specs.{Answers.{fitting, repair_refusal}, Repair.{after_line, displaced_in, keeping, kept_after, later_lines, lines_of, places_of, remarks_from, some_before, verdict, verdicts_after}}
pub use Rattle.spell.{proofs.{Listing.{alone, distinct_fresh, distinct_more, neither}, Order.{asym, ordered_cons, ordered_first, ordered_tail, text_order}}, specs.{Listing.{Good, Sound}, declared.Urgency.TheVariants.{Grade, Reading}}, specs.Order.ordered, specs.declared.Spell.Spell}
unfoldable pub use Rattle.spell.specs.{Listing.{Each, distinct, stands}, Order.{earlier_of, lexical, ordered_by}}
