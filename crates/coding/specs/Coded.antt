-- A list of calls as words, and the words of their answers. Assumes nothing.
use Rattle.std.specs.Prelude.{ℕ, zero, suc, ◌+◌, ◌*◌, ◌/◌, ◌%◌, min, cond, Option, Some, None, List, [], ◌∷◌, leb, eqb, length, take, drop, get_or}
use Rattle.std.specs.Float.{binary32}
use Rattle.std.specs.Float.Ieee.{of_bits}
use Rattle.spell.specs.declared.Urgency.{Urgency}
use Rattle.spell.specs.declared.Urgency.TheVariants.{Grade, Reading}
use Rattle.spell.specs.declared.Spell.{Spell}
use Rattle.model.specs.declared.Call.{Call}
use Rattle.model.specs.declared.Call.TheVariants.{Enter, Amend, Strike, TakeBack, Publish, Write, Ask}
use Rattle.model.specs.declared.Question.{Question}
use Rattle.model.specs.declared.Question.TheVariants.{Day, Span, Cover, Days, Mask}
use Rattle.packing.specs.Blocks.{written}
use Rattle.model.specs.Model.{Request, Answer}
use Rattle.coding.specs.declared.Code.{Code}

-- ---- One call's code

-- how many words code a call, and how many results a call has
abbrev pub code_width : ℕ
code_width = 10

abbrev pub result_width : ℕ
result_width = 5

-- a number of 16 bits: a word's lowest
abbrev pub low16 : ℕ → ℕ
low16 x = x % 65536

-- a grade, its kind 0, or a reading by its bits
abbrev pub urgency_of : ℕ → ℕ → Urgency
urgency_of kind value = cond (eqb kind 0) (Grade (low16 value)) (Reading (of_bits binary32 (value % 4294967296)))

-- the word j of the code k
abbrev pub word : List ℕ → ℕ → ℕ → ℕ
word codes k j = get_or codes (code_width * k + j) 0

-- the call's number, the fields of a spell, and how many places of each list the call is lent
unfoldable pub code_at : List ℕ → ℕ → Code
code_at codes k = record {
  op = word codes k 0;
  number = low16 (word codes k 1);
  candidate = low16 (word codes k 2);
  first = low16 (word codes k 3);
  last = low16 (word codes k 4);
  kind = word codes k 5;
  value = word codes k 6;
  days = word codes k 7;
  numbers = word codes k 8;
  text = word codes k 9;
}

abbrev pub spell_of : Code → Spell
spell_of c = record {
  number = c.number;
  candidate = c.candidate;
  first = c.first;
  last = c.last;
  urgency = urgency_of c.kind c.value;
}

-- the call, or none where no call has that number
unfoldable pub call_of : Code → Option Call
call_of c =
    cond (eqb c.op 1) (Some (Enter (spell_of c)))
    (cond (eqb c.op 2) (Some (Amend (spell_of c)))
    (cond (eqb c.op 3) (Some (Strike c.number))
    (cond (eqb c.op 4) (Some TakeBack)
    (cond (eqb c.op 5) (Some (Publish c.number))
    (cond (eqb c.op 6) (Some Write)
    (cond (eqb c.op 7) (Some (Ask (Day c.first)))
    (cond (eqb c.op 8) (Some (Ask (Span c.first c.last)))
    (cond (eqb c.op 9) (Some (Ask (Cover c.number)))
    (cond (eqb c.op 10) (Some (Ask Days))
    (cond (eqb c.op 11) (Some (Ask (Mask c.first c.value))) None))))))))))

-- none, too, where the lists of days, numbers and text have fewer places left than it is lent
unfoldable pub next_of : Code → ℕ → ℕ → ℕ → Option Call
next_of c days numbers text =
    cond (leb c.days days) (cond (leb c.numbers numbers) (cond (leb c.text text) (call_of c) None) None) None

-- ---- The fields that a call's code has: its spell's, or its number and days in their places, and 0 in the others

-- what the value's word holds: that of an urgency, or a mask
pub data Value : Type 0 where
  urgent : Urgency → Value
  masked : ℕ → Value

pub record Fields : Type 0 where
  pub number : ℕ
  pub candidate : ℕ
  pub first : ℕ
  pub last : ℕ
  pub value : Value

abbrev pub spell_fields : Spell → Fields
spell_fields s = record { number = s.number; candidate = s.candidate; first = s.first; last = s.last; value = urgent s.urgency }

abbrev pub fields : ℕ → ℕ → ℕ → Fields
fields number first last = record { number = number; candidate = 0; first = first; last = last; value = masked 0 }

abbrev pub asked_fields : Question → Fields
asked_fields (Day d) = fields 0 d 0
asked_fields (Span a b) = fields 0 a b
asked_fields (Cover k) = fields k 0 0
asked_fields Days = fields 0 0 0
asked_fields (Mask b k) = record { number = 0; candidate = 0; first = b; last = 0; value = masked k }

abbrev pub fields_of : Call → Fields
fields_of (Enter s) = spell_fields s
fields_of (Amend s) = spell_fields s
fields_of (Strike k) = fields k 0 0
fields_of TakeBack = fields 0 0 0
fields_of (Publish rule) = fields rule 0 0
fields_of Write = fields 0 0 0
fields_of (Ask w) = asked_fields w

-- the question's number among the questions
abbrev pub question_number : Question → ℕ
question_number (Day d) = 1
question_number (Span a b) = 2
question_number (Cover k) = 3
question_number Days = 4
question_number (Mask b k) = 5

-- the call's number: questions follow the other calls
abbrev pub op_of : Call → ℕ
op_of (Enter s) = 1
op_of (Amend s) = 2
op_of (Strike k) = 3
op_of TakeBack = 4
op_of (Publish rule) = 5
op_of Write = 6
op_of (Ask w) = 6 + question_number w

-- ---- The list of calls

-- as many codes as are whole and have places for their results
abbrev pub whole_of : List ℕ → List ℕ → ℕ
whole_of codes results = min (length codes / code_width) (length results / result_width)

abbrev pub and_then : Option Call → List ℕ → List ℕ → List ℕ → List Request → List Request
and_then None days numbers text rest = []
and_then (Some c) days numbers text rest = record { call = c; days = days; numbers = numbers; text = text } ∷ rest

-- n codes from the code k on, up to the first that is no call. Each call is lent the next parts of days, numbers and text.
unfoldable pub decode_from : List ℕ → ℕ → ℕ → List ℕ → List ℕ → List ℕ → List Request
decode_from codes zero k days numbers text = []
decode_from codes (suc n) k days numbers text =
    and_then (next_of (code_at codes k) (length days) (length numbers) (length text))
    (take (code_at codes k).days days)
    (take (code_at codes k).numbers numbers)
    (take (code_at codes k).text text)
    (decode_from codes n (suc k) (drop (code_at codes k).days days) (drop (code_at codes k).numbers numbers) (drop (code_at codes k).text text))

-- the calls of the whole list
abbrev pub decode : List ℕ → List ℕ → List ℕ → List ℕ → List ℕ → List Request
decode codes days results numbers text = decode_from codes (whole_of codes results) 0 days numbers text

-- ---- The answers

-- a call's results
abbrev pub told : Answer → List ℕ
told a = a.refusal ∷ a.count ∷ a.comparisons ∷ a.length ∷ a.ticked ∷ []

-- the results of all calls, end to end; so the lists of numbers, and those of text
abbrev pub results_of : List Answer → List ℕ
results_of answers = written told answers

abbrev pub numbers_of : List Answer → List ℕ
numbers_of answers = written (λ (a : Answer). a.numbers) answers

abbrev pub texts_of : List Answer → List ℕ
texts_of answers = written (λ (a : Answer). a.text) answers
