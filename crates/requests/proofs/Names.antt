-- The names of other crates and of the definitions that the proofs use, passed on from one place. Assumes nothing.
pub use Prim.Native.{Char.code, String.{String, ◌∷◌ as ◌then◌, [] as none}}
pub use Rattle.buffer.specs.Buffer.{over}
pub use Rattle.decimals.proofs.Decimals.{length_within, write_number}
pub use Rattle.fields.{proofs.{Bytes.by_found, Places.{at_inside, here, past_end}, Widths.decimal_wide}, specs.{Answers.{answer_in}, Fields.{Found, found, is_at, read_length, read_mask, read_number, unreadable}}}
unfoldable pub use Rattle.fields.specs.Fields.{hex_value, passed, read_decimal, read_digits, read_hex}
pub use Rattle.model.specs.declared.{Call.{Call, TheVariants.{Amend, Ask, Enter, Publish, Strike, TakeBack, Write}}, Question.TheVariants.{Cover, Day, Span}}
unfoldable pub use Rattle.register.specs.Text.{read_letter, read_line, read_urgency, read_value}
pub use Rattle.requests.specs.{Parsing.{Announces, Asks, Parses, asked_from, days_in, following_in, if_ended, request_of, room_in}, Requests.{Demand, DayList, ask_days, asking, asks, asks_call, asks_read, asks_room, ended, last_day, length_asks, malformed, next_day}, Words.{alone_call, bytes_of, call_words, head_or, limit_of, number_call, pair_call, question_words, spell_call}, declared.{Head.Head, Layout.{Layout, TheVariants.{Alone, Days as DayFields, Length, Mask as MaskFields, Number, Pair, Unknown}}, LengthWord.{LengthWord, TheVariants.{Read, Room}}, Request.{Request, TheVariants.{Malformed, Call as RequestCall, Malformed as RequestMalformed}}, SpellWord.TheVariants.Enter as EnterWord}}
unfoldable pub use Rattle.requests.specs.{Requests.{asked_by, asked_of, days_by, days_of, following, read_days}, Words.{begins, head_of, table, table as words}}
pub use Rattle.spell.specs.declared.Urgency.{Urgency, TheVariants.{Grade, Reading}}
pub use lib.Ieee.{binary32, of_bits}
