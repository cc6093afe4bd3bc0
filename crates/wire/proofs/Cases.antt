-- The protocol's example, and answers at the edges of its rules, computed. Assumes nothing.
use Prim.Native.String.{String}
use Rattle.basis.proofs.Prelude.{◌≡◌, refl, List, [], ◌∷◌, map}
use lib.Ieee.{is_nan, to_bits, of_bits}
use Rattle.spell.specs.{Order.{listed_before, earlier_of}, Listing.stands}
use Rattle.stabbing.specs.Tree.{below, keep, count, head, next, parent, child, left_sibling, last_child, fits_at, start, on_path, formula}
use Rattle.fields.specs.Fields.{digits_of, decimal_of, hex_digit, hex_of, numbers_text, passed, read_digits, read_decimal, hex_value, read_hex}
use Rattle.register.specs.Text.{line_text, text_onto, read_letter, read_value, read_urgency, read_line, follows, line_refusal, line_answer, next_line, read_lines, read_text}
use Rattle.orders.specs.Orders.{sorted_by}
use Rattle.rules.specs.Rules.{last_of}
use Rattle.model.specs.{Edits.{insert_by, enter_refusal, strike_refusal, remember}, Publishing.published_of, Questions.{on_any, rising, filter, comparisons_of}, Effects.settle, Model.{take_back, cover, ask, effect_of}}
use Rattle.calendar.specs.Calendar.{days_ok}
use Rattle.masks.specs.Masks.{is_set, ticks_from}
use Rattle.requests.{specs.{Words.{table, begins, head_of}, Requests.{read_days, asked_by, asked_of}}, proofs.Cases.spelled}
use Rattle.replies.specs.Replies.{refused_text, refused_line, listed_text, dashed_text, several_text, ticked_text, written_text, shape_text, call_text, reading_text}
use Rattle.conversations.specs.Conversation.{Sent, opening, register_of, turn_of, converse}

-- a request and its answer: the line, the bytes after the line of a `read`, and the answer's bytes
abbrev Said : Type 0
Said = String × String × String

abbrev sent : Said → Sent
sent x = record { line = spelled x.0; payload = spelled x.1 }

-- the session of docs/PROTOCOL.md
abbrev session : List Said
session =
    ("enter 31 502 100 465 G 1\n", "", "ok\n")
    ∷ ("enter 32 733 120 140 C 42280000\n", "", "ok\n")
    ∷ ("publish 1\n", "", "ok\n")
    ∷ ("day 130\n", "", "listed 2 0 31 32\n")
    ∷ ("days 99 141\n", "", "listed 1 - 31\n")
    ∷ ("strike 33\n", "", "refused 7\n")
    ∷ ("day 130 131\n", "", "malformed\n")
    ∷ ("write\n", "", "text 45\n31 502 100 465 G 1\n32 733 120 140 C 42280000\n")
    ∷ ("read 16\n", "41 612 7 90 G 5\n", "refused 5 1\n")
    ∷ ("read 16\n", "41 612 7 90 G 4\n", "ok\n")
    ∷ []

-- refusals of other numbers, a room, an answer that lists nobody, a text of no lines
abbrev edges : List Said
edges =
    ("enter 11 7 1 10 G 2\n", "", "ok\n")
    ∷ ("enter 11 7 1 10 G 2\n", "", "refused 6\n")
    ∷ ("publish 1\n", "", "ok\n")
    ∷ ("span 5 9\n", "", "listed 1 0 11\n")
    ∷ ("day 4001\n", "", "refused 3\n")
    ∷ ("mask 4 0000000000000081\n", "", "ticked 2 1 - 11\n")
    ∷ ("mask 65535 8000000000000000\n", "", "refused 3\n")
    ∷ ("room 0\n", "", "ok\n")
    ∷ ("cover 11\n", "", "refused 11\n")
    ∷ ("days\n", "", "listed 0 -\n")
    ∷ ("mask 4 0000000000000081\n", "", "refused 11\n")
    ∷ ("mask 65535 0000000000000000\n", "", "ticked 0 0 -\n")
    ∷ ("take-back\n", "", "ok\n")
    ∷ ("take-back\n", "", "refused 9\n")
    ∷ ("write\n", "", "text 0\n")
    ∷ []

-- THE PROTOCOL'S EXAMPLE, and the edges
pub example : map (λ c. converse opening (map sent c)) (session ∷ edges ∷ []) ≡ map (map (λ x. spelled x.2)) (session ∷ edges ∷ [])
unfolding spelled converse turn_of register_of call_text reading_text shape_text refused_text refused_line listed_text dashed_text several_text ticked_text written_text
    table begins head_of asked_by asked_of read_days digits_of decimal_of hex_digit hex_of numbers_text passed read_digits read_decimal hex_value read_hex
    line_text text_onto read_letter read_value read_urgency read_line follows line_refusal line_answer next_line read_lines read_text
    settle effect_of take_back ask cover enter_refusal strike_refusal insert_by published_of last_of sorted_by listed_before remember earlier_of stands is_nan to_bits of_bits
    on_any days_ok rising ticks_from is_set filter comparisons_of below keep count head next parent child left_sibling last_child fits_at start on_path formula
example = refl
