-- The contracts of private functions. Assumes nothing.
use Rattle.std.specs.Prelude.{ℕ, ◌≡◌, cond, List, leb}
use Rattle.model.specs.declared.Call.{Call}
use Rattle.requests.specs.Requests.{Demand, asks_call}
use Rattle.service.specs.Packed.{unpacked}
use Rattle.service.specs.Service.{Blocks, Given}
use Rattle.conversations.specs.declared.Wanted.{Wanted}
use Rattle.conversations.specs.declared.Wanted.TheVariants.{Call as WantedCall, Read as WantedRead}
use Rattle.conversations.specs.Answering.{room_of, Answers, asked_in}
use Rattle.hosting.specs.Host.{Laid}
use Rattle.sharing.specs.declared.Carried.{Carried}
use Rattle.sharing.specs.Words.{call_word, word_of, power_of, changed_at}
use Rattle.sharing.specs.Carrying.{answered_of, held_at}

-- the word of what is wanted of the service
abbrev pub wanted_word : Wanted → ℕ
wanted_word (WantedCall c k) = call_word c
wanted_word (WantedRead n) = 2

-- what is asked is carried out, its days read already: its word is told, and by its power whether it changed the state
pub record Changing (q : Demand) (words : List ℕ) (bs : Blocks) (room : ℕ) (payload numbers text out : List ℕ) (r : Carried) (words' : List ℕ) (bs' : Blocks) (numbers' text' out' : List ℕ) : Type 0 where
  pub answers : Answers (unpacked words) bs (room_of room) q payload numbers text out (answered_of words' r) bs' numbers' text' out'
  pub laid : Laid words → Laid words'
  pub kept : power_of (word_of q) ≡ 0 → words' ≡ words
  pub word : r.word ≡ word_of q
  pub changed : r.changed ≡ changed_at (power_of (word_of q)) out' r.place

-- or held back, and all is as it was
pub record HeldOf (n : ℕ) (words : List ℕ) (bs : Blocks) (room : ℕ) (numbers text out : List ℕ) (r : Carried) (words' : List ℕ) (bs' : Blocks) (numbers' text' out' : List ℕ) : Type 0 where
  pub told : r ≡ held_at n room
  pub words_kept : words' ≡ words
  pub blocks_kept : bs' ≡ bs
  pub numbers_kept : numbers' ≡ numbers
  pub text_kept : text' ≡ text
  pub out_kept : out' ≡ out

-- by whether its word does no more than is allowed
pub record RequestedOf (q : Demand) (words : List ℕ) (bs : Blocks) (room allowed : ℕ) (payload numbers text out : List ℕ) (r : Carried) (words' : List ℕ) (bs' : Blocks) (numbers' text' out' : List ℕ) : Type 0 where
  pub done : cond (leb (power_of (word_of q)) allowed)
      (Changing q words bs room payload numbers text out r words' bs' numbers' text' out')
      (HeldOf (word_of q) words bs room numbers text out r words' bs' numbers' text' out')

-- an edit c whose answer is put at the place: whatever blocks, days and text stand beside the words, it is the request's, and the words are laid out as they were
pub record EditTurn (c : Call) (words : List ℕ) (room : ℕ) (numbers text out : List ℕ) (place : ℕ) (words' out' : List ℕ) : Type 0 where
  pub answers : (bs : Blocks) (ds payload : List ℕ) → Given (unpacked words) bs
      → Answers (unpacked words) bs room (asks_call c ds) payload numbers text out (record { service = unpacked words'; room = room; place = place }) bs numbers text out'
  pub laid : Laid words → Laid words'

-- the same of what is wanted
pub record EditsIn (x : Wanted) (words : List ℕ) (room : ℕ) (numbers text out : List ℕ) (r : Carried) (words' out' : List ℕ) : Type 0 where
  pub edits : (bs : Blocks) (payload days : List ℕ) → Given (unpacked words) bs → Changing (asked_in x days) words bs room payload numbers text out r words' bs numbers text out'
