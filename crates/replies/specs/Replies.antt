-- The answers of `serve`, byte for byte (its protocol's table of requests, and the points below it). Assumes nothing.
use Rattle.std.specs.Prelude.{ℕ, cond, List, [], ◌∷◌, ◌++◌, eqb, length, take}
use Rattle.refusal.specs.Table.{accepted}
use Rattle.fields.specs.Fields.{number_text, end_before, numbers_text}
use Rattle.register.specs.Text.{tab, lf, Register}
use Rattle.model.specs.declared.Call.{Call}
use Rattle.model.specs.declared.Call.TheVariants.{Enter, Amend, Strike, TakeBack, Publish, Write, Ask}
use Rattle.model.specs.declared.Question.{Question}
use Rattle.model.specs.declared.Question.TheVariants.{Day, Span, Cover, Days, Mask}
use Rattle.replies.specs.declared.Shape.{Shape}
use Rattle.replies.specs.declared.Shape.TheVariants.{Ok, Text, Listed, Several, Ticked}
use Rattle.model.specs.Model.{Answer, refusal_in, line_in}

-- ---- The words of an answer

-- `ok` LF
abbrev pub ok_text : List ℕ
ok_text = 111 ∷ 107 ∷ 10 ∷ []

-- `malformed` LF
abbrev pub malformed_text : List ℕ
malformed_text = 109 ∷ 97 ∷ 108 ∷ 102 ∷ 111 ∷ 114 ∷ 109 ∷ 101 ∷ 100 ∷ 10 ∷ []

-- `refused` TAB
abbrev pub refused_word : List ℕ
refused_word = 114 ∷ 101 ∷ 102 ∷ 117 ∷ 115 ∷ 101 ∷ 100 ∷ 9 ∷ []

-- `listed` TAB
abbrev pub listed_word : List ℕ
listed_word = 108 ∷ 105 ∷ 115 ∷ 116 ∷ 101 ∷ 100 ∷ 9 ∷ []

-- `ticked` TAB
abbrev pub ticked_word : List ℕ
ticked_word = 116 ∷ 105 ∷ 99 ∷ 107 ∷ 101 ∷ 100 ∷ 9 ∷ []

-- `text` TAB
abbrev pub text_word : List ℕ
text_word = 116 ∷ 101 ∷ 120 ∷ 116 ∷ 9 ∷ []

-- `-`
abbrev pub dash : ℕ
dash = 45

-- ---- The answers

-- bytes before others
abbrev pub bytes_text : List ℕ → List ℕ → List ℕ
bytes_text t rest = t ++ rest

-- a refused call: `refused` number
unfoldable pub refused_text : ℕ → List ℕ
refused_text n = bytes_text refused_word (number_text n lf [])

-- a refused reading: `refused` number line
unfoldable pub refused_line : ℕ → ℕ → List ℕ
refused_line n line = bytes_text refused_word (number_text n tab (number_text line lf []))

-- `listed` k looks, then the k spell numbers
unfoldable pub listed_text : ℕ → ℕ → List ℕ → List ℕ
listed_text k looks ns = bytes_text listed_word (numbers_text (k ∷ looks ∷ ns) [])

-- k `-`, then the k spell numbers
unfoldable pub dashed_text : ℕ → List ℕ → List ℕ
dashed_text k ns = number_text k tab (dash ∷ end_before (length ns) ∷ numbers_text ns [])

-- `listed` k `-`, then the k spell numbers
unfoldable pub several_text : ℕ → List ℕ → List ℕ
several_text k ns = bytes_text listed_word (dashed_text k ns)

-- `ticked` t k `-`, then the k spell numbers
unfoldable pub ticked_text : ℕ → ℕ → List ℕ → List ℕ
ticked_text t k ns = bytes_text ticked_word (number_text t tab (dashed_text k ns))

-- `text` length, LF, then the bytes
unfoldable pub written_text : ℕ → List ℕ → List ℕ
written_text n t = bytes_text text_word (number_text n lf t)

-- the shape of a question's answer
abbrev pub question_shape : Question → Shape
question_shape (Day d) = Listed
question_shape (Span a b) = Listed
question_shape (Cover n) = Listed
question_shape Days = Several
question_shape (Mask b k) = Ticked

-- the shape of an accepted call's answer
abbrev pub shape_of : Call → Shape
shape_of (Enter s) = Ok
shape_of (Amend s) = Ok
shape_of (Strike k) = Ok
shape_of TakeBack = Ok
shape_of (Publish rule) = Ok
shape_of Write = Text
shape_of (Ask w) = question_shape w

-- an accepted answer, by its shape
unfoldable pub shape_text : Shape → Answer → List ℕ
shape_text Ok a = ok_text
shape_text Text a = written_text a.length (take a.length a.text)
shape_text Listed a = listed_text a.count a.comparisons (take a.count a.numbers)
shape_text Several a = several_text a.count (take a.count a.numbers)
shape_text Ticked a = ticked_text a.ticked a.count (take a.count a.numbers)

-- a call's answer
unfoldable pub call_text : Call → Answer → List ℕ
call_text c a = cond (eqb a.refusal accepted) (shape_text (shape_of c) a) (refused_text a.refusal)

-- a reading's answer
unfoldable pub reading_text : Register → List ℕ
reading_text g = cond (eqb (refusal_in g) accepted) ok_text (refused_line (refusal_in g) (line_in g))
