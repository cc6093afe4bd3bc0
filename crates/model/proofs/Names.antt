-- The names of other crates and of the definitions that the proofs use, passed on from one place. Assumes nothing.
pub use Rattle.buffer.specs.Buffer.{over}
pub use Rattle.calendar.specs.Calendar.{is_day}
unfoldable pub use Rattle.calendar.specs.Calendar.{days_ok}
pub use Rattle.masks.{proofs.Claims.{empty, in_sheet, rises}, specs.Masks.ticks}
unfoldable pub use Rattle.masks.specs.Masks.{is_set, ticks_from}
pub use Rattle.model.specs.{Edits.{insert, or_else, replace}, Effects.{Answer, Request, State, After, Effect, done, gave, gives, refuse, refused, with_published, with_standing, writes, wrote}, Journal.{Event, Told, call, kept, reads, told}, Model.{amend, become, edit, fresh, reaching, several, step, step_of}, Questions.{covers, firsts_of, lasts_of, listed, on_day, on_span, reaches}, Reached.{Begun, Brings, Kept, Passes, afresh}, declared.{Call.{Call, TheVariants.{Amend, Ask, Enter, Publish, Strike, TakeBack, Write}}, Question.Question}}
unfoldable pub use Rattle.model.specs.{Edits.{amend_refusal, enter_refusal, front_or, idle, remember, remove, rest_of, strike_refusal, take_back_refusal}, Effects.settle, Journal.{all_told, journal, journal_told, left}, Model.{ask, begun, cover, effect_of, run, take_back}, Publishing.published_of, Questions.{comparisons_of, filter, on_any, rising}, Reached.after}
pub use Rattle.orders.proofs.Sorting.{sorted_length}
unfoldable pub use Rattle.orders.specs.Orders.{sorted_by}
pub use Rattle.refusal.specs.Table.{accepted, duplicate_number, full, no_history, no_such_rule, off_calendar, reversed, short_buffer, unknown_number, unsorted_days}
pub use Rattle.register.{proofs.Claims.{list_again, text_again}, specs.Text.{Register, write_all, Register.{bad, good}}}
unfoldable pub use Rattle.register.specs.Text.{read_text}
pub use Rattle.rules.{proofs.Rules.{as_entered, cut_passes, cut_sound}, specs.Rules.{cut, is_rule}}
unfoldable pub use Rattle.rules.specs.Rules.{last_of}
pub use Rattle.spell.{proofs.{Entered.{needed, past, same_equal}, Listing.{alone, listed_stands, neither, none_stands, stands_none}, Order.{StrictOrder, answer_order, asym, each_map, each_member, ordered_cons, ordered_first, ordered_tail, text_order}}, specs.{Blank.blank, Entry.refusal_of, Listing.{Good, HeldUrgency, Orderly, OrderlyBy, Sound}, Same.same_urgency, declared.{Spell.Spell, Urgency.{Urgency, TheVariants.{Grade, Reading}}}}}
unfoldable pub use Rattle.spell.specs.{Listing.{Each, distinct, stands}, Order.{earlier_of, listed_before, ordered_by}, Same.same_of}
pub use Rattle.stabbing.proofs.{Marks.{keep_hit, keep_miss}, Walk.formula_le}
unfoldable pub use Rattle.stabbing.specs.Tree.{below, child, count, fits_at, formula, head, keep, last_child, left_sibling, on_path, parent, start}
pub use lib.Ieee.{binary32}
unfoldable pub use lib.Ieee.{is_nan, of_bits, to_bits}
