-- A coded list of calls worked out: what it codes, and what the account's answers leave in the lists. Assumes nothing.
use Rattle.basis.proofs.Prelude.{◌≡◌, refl, ℕ, List, [], ◌++◌, ◌∷◌, length, replicate}
use lib.Ieee.{binary32, is_nan, to_bits, of_bits}
use Rattle.spell.specs.{declared.Urgency.TheVariants.{Grade, Reading}, Order.{listed_before, earlier_of}, Listing.stands}
use Rattle.stabbing.specs.Tree.{below, keep, count, head, next, parent, child, left_sibling, last_child, fits_at, start, on_path, formula}
use Rattle.model.specs.{declared.{Call.{Call, TheVariants.{Enter, Amend, Strike, TakeBack, Publish, Write, Ask}}, Question.TheVariants.{Day, Span, Cover, Days, Mask}}, Edits.{insert_by, enter_refusal, remember}, Publishing.published_of, Questions.{on_any, rising, filter, comparisons_of}, Effects.settle, Model.{Request, Answer, fresh, ask, effect_of, run}}
use Rattle.orders.specs.Orders.{sorted_by}
use Rattle.rules.specs.Rules.{last_of}
use Rattle.calendar.specs.Calendar.{days_ok}
use Rattle.masks.specs.Masks.{is_set, ticks_from}
use Rattle.buffer.specs.Buffer.{over}
use Rattle.packing.specs.Blocks.{written}
use Rattle.coding.specs.Coded.{result_width, code_at, call_of, next_of, decode_from, decode, told, results_of, numbers_of, texts_of}

-- enter 11, with a word of more than 16 bits; enter 12, with a reading; publish by rule 1; day 3, lent three places; days 1 and 4, lent
-- two places; the mask of days 3 and 4, lent one place, which is short; a number that no call has; and a code of three words
abbrev codes : List ℕ
codes = (1 ∷ 65547 ∷ 7 ∷ 1 ∷ 10 ∷ 0 ∷ 2 ∷ 0 ∷ 0 ∷ 0 ∷ [])
    ++ (1 ∷ 12 ∷ 8 ∷ 3 ∷ 4 ∷ 1 ∷ 0x3F80_0000 ∷ 0 ∷ 0 ∷ 0 ∷ [])
    ++ (5 ∷ 1 ∷ 0 ∷ 0 ∷ 0 ∷ 0 ∷ 0 ∷ 0 ∷ 0 ∷ 0 ∷ [])
    ++ (7 ∷ 0 ∷ 0 ∷ 3 ∷ 0 ∷ 0 ∷ 0 ∷ 0 ∷ 3 ∷ 0 ∷ [])
    ++ (10 ∷ 0 ∷ 0 ∷ 0 ∷ 0 ∷ 0 ∷ 0 ∷ 2 ∷ 2 ∷ 0 ∷ [])
    ++ (11 ∷ 0 ∷ 0 ∷ 3 ∷ 0 ∷ 0 ∷ 3 ∷ 0 ∷ 1 ∷ 0 ∷ [])
    ++ (65535 ∷ 0 ∷ 0 ∷ 0 ∷ 0 ∷ 0 ∷ 0 ∷ 0 ∷ 0 ∷ 0 ∷ [])
    ++ (1 ∷ 2 ∷ 3 ∷ [])

abbrev coded : ℕ → List Request
coded room = decode codes (1 ∷ 4 ∷ 9 ∷ []) (replicate room 77) (91 ∷ 92 ∷ 93 ∷ 94 ∷ 95 ∷ 96 ∷ []) []

abbrev request : Call → List ℕ → List ℕ → Request
request c ds ns = record { call = c; days = ds; numbers = ns; text = [] }

-- six calls, each with its parts
pub decoded : coded 35
    ≡ request (Enter (record { number = 11; candidate = 7; first = 1; last = 10; urgency = Grade 2 })) [] []
    ∷ request (Enter (record { number = 12; candidate = 8; first = 3; last = 4; urgency = Reading (of_bits binary32 0x3F80_0000) })) [] []
    ∷ request (Publish 1) [] [] ∷ request (Ask (Day 3)) [] (91 ∷ 92 ∷ 93 ∷ [])
    ∷ request (Ask Days) (1 ∷ 4 ∷ []) (94 ∷ 95 ∷ []) ∷ request (Ask (Mask 3 3)) [] (96 ∷ []) ∷ []
decoded = unfold decode_from code_at next_of call_of in refl

-- one call fewer where the sixth has four places for its results
pub no_room : length (coded 29) ≡ 5
no_room = unfold decode_from code_at next_of call_of in refl

-- their answers, from a fresh service, in the lists
pub answered : (over (results_of (run fresh (coded 35))) (replicate 35 77)
    ≡ replicate 15 0 ++ (0 ∷ 2 ∷ 0 ∷ 0 ∷ 0 ∷ []) ++ (0 ∷ 2 ∷ 0 ∷ 0 ∷ 0 ∷ []) ++ (11 ∷ 0 ∷ 0 ∷ 0 ∷ 0 ∷ []) ++ replicate 5 77)
    × (over (numbers_of (run fresh (coded 35))) (91 ∷ 92 ∷ 93 ∷ 94 ∷ 95 ∷ 96 ∷ []) ≡ 11 ∷ 12 ∷ 93 ∷ 11 ∷ 12 ∷ 96 ∷ [])
unfolding decode_from code_at next_of call_of written run settle effect_of ask enter_refusal insert_by published_of last_of sorted_by listed_before remember earlier_of stands is_nan to_bits of_bits
    on_any days_ok rising ticks_from is_set filter comparisons_of below keep count head next parent child left_sibling last_child fits_at start on_path formula
answered = (refl, refl)

-- ---- Every word of a code, and every place of an answer

-- a code with a field of its own in each word, lent a day, two numbers and three bytes
abbrev each : ℕ → ℕ → List ℕ
each op kind = op ∷ 11 ∷ 12 ∷ 13 ∷ 14 ∷ kind ∷ 15 ∷ 1 ∷ 2 ∷ 3 ∷ []

abbrev lent : Call → Request
lent c = record { call = c; days = 5 ∷ []; numbers = 6 ∷ 6 ∷ []; text = 7 ∷ 7 ∷ 7 ∷ [] }

-- each call has its number, and takes the words that are its own
pub each_call : decode (each 1 0 ++ each 2 1 ++ each 3 0 ++ each 4 0 ++ each 5 0 ++ each 6 0 ++ each 7 0 ++ each 8 0 ++ each 9 0 ++ each 10 0 ++ each 11 0)
    (replicate 11 5) (replicate 55 0) (replicate 22 6) (replicate 33 7)
    ≡ lent (Enter (record { number = 11; candidate = 12; first = 13; last = 14; urgency = Grade 15 }))
    ∷ lent (Amend (record { number = 11; candidate = 12; first = 13; last = 14; urgency = Reading (of_bits binary32 15) }))
    ∷ lent (Strike 11) ∷ lent TakeBack ∷ lent (Publish 11) ∷ lent Write
    ∷ lent (Ask (Day 13)) ∷ lent (Ask (Span 13 14)) ∷ lent (Ask (Cover 11)) ∷ lent (Ask Days) ∷ lent (Ask (Mask 13 15)) ∷ []
each_call = unfold decode_from code_at next_of call_of in refl

-- two answers with a value of its own in each place
abbrev two : List Answer
two =
    record { refusal = 1; count = 2; comparisons = 3; length = 4; ticked = 9; numbers = 21 ∷ 22 ∷ []; text = 31 ∷ [] }
    ∷ record { refusal = 5; count = 6; comparisons = 7; length = 8; ticked = 10; numbers = 23 ∷ []; text = 32 ∷ 33 ∷ [] } ∷ []

-- the results stand by calls: refusal, count, comparisons, length, days ticked; numbers and text end to end; the places after them are as they were
pub each_place : (over (results_of two) (replicate 11 77) ≡ 1 ∷ 2 ∷ 3 ∷ 4 ∷ 9 ∷ 5 ∷ 6 ∷ 7 ∷ 8 ∷ 10 ∷ 77 ∷ [])
    × ((over (numbers_of two) (replicate 4 77) ≡ 21 ∷ 22 ∷ 23 ∷ 77 ∷ [])
    × (over (texts_of two) (replicate 4 77) ≡ 31 ∷ 32 ∷ 33 ∷ 77 ∷ []))
each_place = unfold written in (refl, (refl, refl))

-- a call has so many results
pub told_wide : (a : Answer) → length (told a) ≡ result_width
told_wide a = refl
