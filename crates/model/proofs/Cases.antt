-- Document 01's register A, M1 and M2 run through the account: what each call answers, computed. Assumes nothing.
use Rattle.basis.proofs.Prelude.{◌≡◌, refl, ℕ, List, [], ◌++◌, ◌∷◌, map, false, true, length, replicate, take}
use Rattle.model.proofs.Names.{State, Question, over, binary32, is_nan, to_bits, of_bits, Urgency, Grade, Reading, Spell, listed_before, earlier_of, stands, same_of, below, keep, count, head, parent, child, left_sibling, last_child, fits_at, start, on_path, formula, Call, Enter, Amend, Strike, TakeBack, Publish, Ask, sorted_by, last_of, remove, idle, enter_refusal, amend_refusal, strike_refusal, remember, published_of, days_ok, is_set, ticks_from, on_any, rising, filter, comparisons_of, settle, fresh, take_back, cover, ask, effect_of, run, Request, Answer}
use Rattle.model.specs.{declared.Question.TheVariants.{Day, Span, Cover, Days, Mask}, Edits.insert_by}
use Rattle.stabbing.specs.Tree.{next}

-- ---- A call, and the part of its answer that a case names

-- with these days, lent these places for numbers, and no text
abbrev lent : List ℕ → List ℕ → Call → Request
lent ds ns c = record { call = c; days = ds; numbers = ns; text = [] }

-- lent six places, each 99 beforehand
abbrev call : Call → Request
call c = lent [] (replicate 6 99) c

abbrev days : List ℕ → Request
days ds = lent ds (replicate 6 99) (Ask Days)

abbrev entered : List Spell → List Request
entered l = map (λ s. call (Enter s)) l

abbrev asks : List Question → List Request
asks ws = map (λ w. call (Ask w)) ws

-- refusal, count and looks in front of the lent list
abbrev told : Answer → List ℕ
told a = a.refusal ∷ a.count ∷ a.comparisons ∷ a.numbers

-- the answer of a refused call, or of an accepted one that lists nothing
abbrev plain : ℕ → List ℕ
plain n = n ∷ 0 ∷ 0 ∷ replicate 6 99

-- the answer that lists these numbers, with so many looks
abbrev lists : ℕ → List ℕ → List ℕ
lists looks ns = 0 ∷ length ns ∷ looks ∷ over ns (replicate 6 99)

-- ---- Register A

abbrev spell : ℕ → ℕ → ℕ → ℕ → Urgency → Spell
spell n c f l u = record { number = n; candidate = c; first = f; last = l; urgency = u }

-- the reading of these bits
abbrev reading : ℕ → Urgency
reading bits = Reading (of_bits binary32 bits)

-- entered in no order
abbrev entering : List Request
entering = entered (spell 15 7 7 12 (reading 0) ∷ spell 11 7 1 10 (Grade 2) ∷ spell 13 9 5 8 (Grade 1) ∷ spell 16 5 9 9 (Grade 3)
    ∷ spell 12 8 3 4 (reading 0x3F80_0000) ∷ spell 14 9 5 6 (Grade 4) ∷ []) ++ (call (Publish 1) ∷ [])

-- ---- M1 and M2: spells numbered from 1, candidate 1, grade 1

abbrev plainly : ℕ → ℕ → ℕ → Request
plainly n f l = call (Enter (spell n 1 f l (Grade 1)))

-- The account with all that its calls compute by, opened together
account : State → List Request → List Answer
unfolding run settle effect_of take_back ask cover enter_refusal amend_refusal strike_refusal insert_by remove remember earlier_of stands idle
    same_of is_nan to_bits of_bits published_of last_of sorted_by listed_before on_any days_ok rising filter ticks_from is_set
    comparisons_of below keep count head next parent child left_sibling last_child fits_at start on_path formula
account m qs = run m qs

-- ---- Document 01's cases, in one statement

pub document_cases : map (λ qs. map told (run fresh qs)) (
    (entering ++ asks (Day 3 ∷ Day 5 ∷ Day 7 ∷ Day 9 ∷ Day 10 ∷ Day 13 ∷ Span 9 10 ∷ Cover 14 ∷ []) ++ (days (4 ∷ 11 ∷ []) ∷ []))
    ∷ (plainly 1 1 10 ∷ plainly 2 3 4 ∷ call (Publish 1) ∷ call (Ask (Span 6 7)) ∷ [])
    ∷ (plainly 1 1 20 ∷ plainly 2 2 5 ∷ plainly 3 6 8 ∷ plainly 4 10 12 ∷ call (Publish 1) ∷ days (3 ∷ 11 ∷ []) ∷ []) ∷ [])
    ≡ (replicate 7 (plain 0)
    ++ (lists 0 (11 ∷ 12 ∷ []) ∷ lists 2 (11 ∷ 14 ∷ 13 ∷ []) ∷ lists 4 (11 ∷ 13 ∷ 15 ∷ []) ∷ lists 2 (11 ∷ 15 ∷ 16 ∷ [])
    ∷ lists 2 (11 ∷ 15 ∷ []) ∷ plain 0 ∷ lists 2 (11 ∷ 15 ∷ 16 ∷ []) ∷ lists 2 (11 ∷ 14 ∷ 13 ∷ []) ∷ lists 0 (11 ∷ 12 ∷ 15 ∷ []) ∷ []))
    ∷ (replicate 3 (plain 0) ++ (lists 0 (1 ∷ []) ∷ []))
    ∷ (replicate 5 (plain 0) ++ (lists 0 (1 ∷ 2 ∷ 4 ∷ []) ∷ []))
    ∷ []
document_cases = unfold account in refl

-- ---- Document 02, W3: a reading of eight days and a grade of seven, published by rule 1, by rule 2, by a rule that there is not

-- under rule 2 both end on day 7 and change places; what rule 3 asks for is refused with 14 and leaves that list
pub rules_in_turn : map told (run fresh (entered (spell 1 7 1 8 (reading 0) ∷ spell 2 7 1 7 (Grade 1) ∷ [])
    ++ (call (Publish 1) ∷ asks (Day 7 ∷ Day 8 ∷ []))
    ++ (call (Publish 2) ∷ asks (Day 7 ∷ Day 8 ∷ []))
    ++ (call (Publish 3) ∷ asks (Day 7 ∷ []))))
    ≡ replicate 3 (plain 0) ++ (lists 1 (2 ∷ 1 ∷ []) ∷ lists 1 (1 ∷ [])
    ∷ plain 0 ∷ lists 1 (1 ∷ 2 ∷ []) ∷ plain 0
    ∷ plain 14 ∷ lists 1 (1 ∷ 2 ∷ []) ∷ [])
rules_in_turn = unfold account in refl

-- ---- Document 02, W6: twins go by candidate and then by number, and under rule 2 spells are twins by their published days

pub twins_in_turn : map told (run fresh (entered (spell 1 9 1 8 (reading 0) ∷ spell 2 8 1 9 (reading 0) ∷ spell 3 7 1 7 (Grade 1)
    ∷ spell 4 8 1 7 (Grade 1) ∷ []) ++ (call (Publish 1) ∷ call (Ask (Day 7)) ∷ call (Publish 2) ∷ call (Ask (Day 7)) ∷ [])))
    ≡ replicate 5 (plain 0) ++ (lists 3 (3 ∷ 4 ∷ 1 ∷ 2 ∷ []) ∷ plain 0 ∷ lists 3 (3 ∷ 2 ∷ 4 ∷ 1 ∷ []) ∷ [])
twins_in_turn = unfold account in refl

-- ---- Refusals, each at the state that the calls before it left

abbrev one : Spell
one = spell 11 7 1 10 (Grade 2)

pub refusals : map (λ a. a.refusal) (run fresh (call TakeBack ∷ entered (one ∷ one ∷ spell 0 0 0 0 (Grade 0) ∷ [])
    ++ (call (Amend (spell 12 7 1 10 (Grade 2))) ∷ call (Amend (spell 11 7 1 4001 (Grade 2))) ∷ call (Strike 12) ∷ call (Ask (Cover 11))
    ∷ call (Publish 1) ∷ lent [] [] (Ask (Day 1)) ∷ lent [] (99 ∷ []) (Ask (Day 1)) ∷ asks (Day 0 ∷ Span 5 4 ∷ Span 5 0 ∷ []))
    ++ (days (5 ∷ 5 ∷ []) ∷ days (5 ∷ 4 ∷ 4001 ∷ []) ∷ call (Strike 11) ∷ replicate 3 (call TakeBack))))
    ≡ 9 ∷ 0 ∷ 6 ∷ 1 ∷ 7 ∷ 3 ∷ 7 ∷ 7 ∷ 0 ∷ 11 ∷ 0 ∷ 3 ∷ 4 ∷ 3 ∷ 10 ∷ 3 ∷ 0 ∷ 0 ∷ 0 ∷ 9 ∷ []
refusals = unfold account in refl

-- ---- Masks: the number of days ticked in front of the answer

-- Days 4 and 11 of register A, as bits 0 and 7 of base 4. Days 0, 4,001 and 65,598 (bit 63 of base 65,535) are off the calendar. An empty
-- mask of base 65,535 is accepted with no place lent, where a mask that lists somebody is refused with 11 and ticks none.
pub masks : map (λ a. a.ticked ∷ told a) (run fresh (entering
    ++ asks (Mask 4 129 ∷ Mask 0 1 ∷ Mask 3937 9223372036854775808 ∷ Mask 3938 9223372036854775808 ∷ Mask 65535 9223372036854775808 ∷ [])
    ++ (lent [] [] (Ask (Mask 65535 0)) ∷ lent [] [] (Ask (Mask 4 129)) ∷ [])))
    ≡ replicate 7 (0 ∷ plain 0) ++ ((2 ∷ lists 0 (11 ∷ 12 ∷ 15 ∷ [])) ∷ (0 ∷ plain 3) ∷ (1 ∷ plain 0) ∷ (0 ∷ plain 3) ∷ (0 ∷ plain 3)
    ∷ replicate 4 0 ∷ (0 ∷ 11 ∷ 0 ∷ 0 ∷ []) ∷ [])
masks = unfold account in refl

-- ---- Edits, and what a day lists before and after they are published

-- Three spells; 2 is struck; 3, on days 5 to 8, is amended to days 2 and 3, which is taken back. A day is asked before and after each publish.
pub edits : map (λ a. take a.count a.numbers) (run fresh (plainly 1 1 10 ∷ plainly 2 3 4 ∷ plainly 3 5 8 ∷ call (Publish 1)
    ∷ call (Strike 2) ∷ call (Ask (Day 3)) ∷ call (Publish 1) ∷ call (Ask (Day 3)) ∷ call (Ask (Day 6))
    ∷ call (Amend (spell 3 1 2 3 (Grade 1))) ∷ call (Ask (Day 6)) ∷ call (Publish 1) ∷ call (Ask (Day 6)) ∷ call (Ask (Day 3))
    ∷ call TakeBack ∷ call (Ask (Day 3)) ∷ call (Publish 1) ∷ call (Ask (Day 3)) ∷ []))
    ≡ replicate 5 [] ++ ((1 ∷ 2 ∷ []) ∷ [] ∷ (1 ∷ []) ∷ (1 ∷ 3 ∷ [])
    ∷ [] ∷ (1 ∷ 3 ∷ []) ∷ [] ∷ (1 ∷ []) ∷ (1 ∷ 3 ∷ [])
    ∷ [] ∷ (1 ∷ 3 ∷ []) ∷ [] ∷ (1 ∷ []) ∷ [])
edits = unfold account in refl

-- ---- The 65th list falls off

-- spell 11 with the reading of these bits in place of its grade
abbrev measured : ℕ → Spell
measured bits = spell 11 7 1 10 (reading bits)

abbrev twice : List Request → List Request
twice qs = qs ++ qs

-- An enter and 64 amends leave 64 lists of the past. 64 are taken back, the 65th refused, and what the enter put in still stands.
pub past_64 : map (λ a. a.refusal) (run fresh ((call (Enter one) ∷ twice (twice (twice (twice (twice (call (Amend (measured 0)) ∷ call (Amend one) ∷ []))))))
    ++ (replicate 65 (call TakeBack) ++ (call (Strike 11) ∷ call (Strike 11) ∷ []))))
    ≡ replicate 129 0 ++ (9 ∷ 0 ∷ 7 ∷ [])
past_64 = unfold account in refl

-- ---- Saving a form twice

-- An enter, and two amends, the second of the reading's lowest bit alone; then 64 idle ones. Minus zero and a NaN are refused. All three
-- edits are taken back; after the first of them the former reading stands, by which an amend is idle.
pub saves : map (λ a. a.refusal) (run fresh (call (Enter one) ∷ call (Amend (measured 0x3F80_0000))
    ∷ replicate 65 (call (Amend (measured 0x3F80_0001))) ++ (call (Amend (measured 0x8000_0000)) ∷ call (Amend (measured 0x7FC0_0000))
    ∷ call TakeBack ∷ call (Amend (measured 0x3F80_0000)) ∷ replicate 3 (call TakeBack))))
    ≡ replicate 67 0 ++ (5 ∷ 5 ∷ 0 ∷ 0 ∷ 0 ∷ 0 ∷ 9 ∷ [])
saves = unfold account in refl

-- What is idle: the spell that stands, and none that differs in one field.
pub idles : map (idle (one ∷ spell 12 8 3 4 (reading 0x3F80_0000) ∷ []))
    (one ∷ spell 12 8 3 4 (reading 0x3F80_0000)
    ∷ spell 13 7 1 10 (Grade 2) ∷ spell 11 8 1 10 (Grade 2) ∷ spell 11 7 2 10 (Grade 2) ∷ spell 11 7 1 11 (Grade 2) ∷ spell 11 7 1 10 (Grade 3)
    ∷ measured 0 ∷ spell 12 8 3 4 (reading 0x3F80_0001) ∷ spell 12 8 3 4 (Grade 2) ∷ [])
    ≡ true ∷ true ∷ replicate 8 false
idles = unfold idle same_of is_nan to_bits of_bits in refl
