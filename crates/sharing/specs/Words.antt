-- The words of requests by number, and what each may do to the state. Assumes nothing.
use Rattle.std.specs.Prelude.{ℕ, ◌+◌, cond, List, eqb, ltb}
use Rattle.fields.specs.Fields.{is_at}
use Rattle.model.specs.declared.Call.{Call}
use Rattle.model.specs.declared.Call.TheVariants.{Enter, Amend, Strike, TakeBack, Publish, Write, Ask}
use Rattle.model.specs.declared.Question.{Question}
use Rattle.coding.specs.Coded.{question_number}
use Rattle.requests.specs.Requests.{Demand}
use Rattle.requests.specs.Parsing.{request_of}
use Rattle.requests.specs.declared.Request.{Request}
use Rattle.requests.specs.declared.Request.TheVariants.{Call as RequestCall, Room as RequestRoom, Read as RequestRead, Malformed as RequestMalformed}

-- questions follow `write`, in the order of their numbers among the questions
abbrev pub question_word : Question → ℕ
question_word w = 32 + question_number w

abbrev pub call_word : Call → ℕ
call_word (Enter s) = 16
call_word (Amend s) = 17
call_word (Strike k) = 18
call_word TakeBack = 19
call_word (Publish rule) = 20
call_word Write = 32
call_word (Ask w) = question_word w

-- the number of a request's word; 0 for a line of no form
abbrev pub word_in : Request → ℕ
word_in (RequestCall c k) = call_word c
word_in (RequestRoom n) = 1
word_in (RequestRead n) = 2
word_in RequestMalformed = 0

-- the same of what is asked
abbrev pub word_of : Demand → ℕ
word_of q = word_in (request_of q)

-- what a word may do: 2, it replaces the state; 1, it changes it; 0, it leaves it
unfoldable pub power_of : ℕ → ℕ
power_of w = cond (eqb w 2) 2 (cond (ltb w 16) 0 (cond (ltb w 32) 1 0))

-- 0 where the word leaves the state; 1 for a reading, and for an answer that begins with the `o` of `ok`
unfoldable pub changed_at : ℕ → List ℕ → ℕ → ℕ
changed_at power out place = cond (eqb power 0) 0 (cond (eqb power 2) 1 (cond (is_at out place 111) 1 0))
