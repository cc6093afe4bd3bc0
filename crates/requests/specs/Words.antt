-- The words that requests begin with, and the layout of what follows each (the protocol of `serve`, its table of requests). Assumes
-- nothing.
use Rattle.std.specs.Prelude.{ℕ, Bool, true, false, ◌&&◌, cond, List, [], ◌∷◌, ◌++◌, eqb, length}
use Prim.Native.Char.{code}
use Prim.Native.String.{String, [] as none, ◌∷◌ as ◌then◌}
use Rattle.spell.specs.declared.Spell.{Spell}
use Rattle.model.specs.declared.Call.{Call}
use Rattle.model.specs.declared.Call.TheVariants.{Enter, Amend, Strike, TakeBack, Publish, Write, Ask}
use Rattle.model.specs.declared.Question.{Question}
use Rattle.model.specs.declared.Question.TheVariants.{Day, Span, Cover, Days, Mask}
use Rattle.requests.specs.declared.Layout.{Layout}
use Rattle.requests.specs.declared.Layout.TheVariants.{Alone, Spell as SpellFields, Number, Pair, Mask as MaskFields, Days as DayFields, Length, Unknown}
use Rattle.requests.specs.declared.AloneWord.{AloneWord}
use Rattle.requests.specs.declared.AloneWord.TheVariants.{TakeBack as TakeBackWord, Write as WriteWord, Days as DaysWord}
use Rattle.requests.specs.declared.SpellWord.{SpellWord}
use Rattle.requests.specs.declared.SpellWord.TheVariants.{Enter as EnterWord, Amend as AmendWord}
use Rattle.requests.specs.declared.NumberWord.{NumberWord}
use Rattle.requests.specs.declared.NumberWord.TheVariants.{Strike as StrikeWord, Publish as PublishWord, Ask as AskWord}
use Rattle.requests.specs.declared.LengthWord.{LengthWord}
use Rattle.requests.specs.declared.LengthWord.TheVariants.{Room, Read}
use Rattle.requests.specs.declared.Head.{Head}

-- the words of the questions
abbrev pub question_words : List (String × Layout)
question_words =
    ("mask\t", MaskFields)
    ∷ ("days\n", Alone DaysWord)
    ∷ ("days\t", DayFields)
    ∷ ("cover\t", Number (AskWord (Cover 0)))
    ∷ ("span\t", Pair)
    ∷ ("day\t", Number (AskWord (Day 0)))
    ∷ []

-- the words of the other calls
abbrev pub call_words : List (String × Layout)
call_words =
    ("write\n", Alone WriteWord)
    ∷ ("publish\t", Number PublishWord)
    ∷ ("take-back\n", Alone TakeBackWord)
    ∷ ("strike\t", Number StrikeWord)
    ∷ ("amend\t", SpellFields AmendWord)
    ∷ ("enter\t", SpellFields EnterWord)
    ∷ []

-- THE TABLE: each word with the byte after it, a tab, or LF where no field follows. No two of them begin the same line.
unfoldable pub table : List (String × Layout)
table = ("read\t", Length Read) ∷ ("room\t", Length Room) ∷ (question_words ++ call_words)

-- the call of a word that stands alone
abbrev pub alone_call : AloneWord → Call
alone_call TakeBackWord = TakeBack
alone_call WriteWord = Write
alone_call DaysWord = Ask Days

-- the call of a word with a spell's fields
abbrev pub spell_call : SpellWord → Spell → Call
spell_call EnterWord s = Enter s
spell_call AmendWord s = Amend s

-- a question of one number with that number
abbrev pub asked_with : Question → ℕ → Question
asked_with (Day d) n = Day n
asked_with (Span a b) n = Span a b
asked_with (Cover k) n = Cover n
asked_with Days n = Days
asked_with (Mask b k) n = Mask b k

-- the call of a word with a number
abbrev pub number_call : NumberWord → ℕ → Call
number_call StrikeWord n = Strike n
number_call PublishWord rule = Publish rule
number_call (AskWord w) n = Ask (asked_with w n)

-- the call of a word with two numbers
abbrev pub pair_call : ℕ → ℕ → Call
pair_call a b = Ask (Span a b)

-- a room is 0 to 65,536, the length of `read` a decimal of at most ten digits
abbrev pub limit_of : LengthWord → ℕ
limit_of Room = 65536
limit_of Read = 9999999999

-- ---- The word of a line

abbrev pub bytes_of : String → List ℕ
bytes_of none = []
bytes_of (c then s) = code c ∷ bytes_of s

-- the bytes s begin with the word
unfoldable pub begins : List ℕ → List ℕ → Bool
begins [] s = true
begins (a ∷ w) [] = false
begins (a ∷ w) (b ∷ s) = eqb b a && begins w s

-- the layout of what follows the word, and the place after it; or what was found before
abbrev pub head_or : List ℕ → Layout → List ℕ → Head → Head
head_or word l s found = cond (begins word s) (record { layout = l; at = length word }) found

unfoldable pub head_of : List (String × Layout) → List ℕ → Head
head_of [] s = record { layout = Unknown; at = 0 }
head_of (row ∷ rows) s = head_or (bytes_of row.0) row.1 s (head_of rows s)
