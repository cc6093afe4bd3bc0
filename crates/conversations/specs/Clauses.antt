-- The contracts of private functions. Assumes nothing.
use Rattle.std.specs.Prelude.{ℕ, ◌≡◌, List}
use Rattle.model.specs.declared.Call.TheVariants.{Ask}
use Rattle.model.specs.declared.Question.{Question}
use Rattle.model.specs.Model.{State, Request, step}
use Rattle.service.specs.declared.Service.{Service}
use Rattle.outcomes.specs.Outcomes.{asking}
use Rattle.service.specs.Service.{Blocks, Represents, Given}
use Rattle.conversations.specs.declared.Answered.{Answered}
use Rattle.conversations.specs.Conversation.{call_of, turn_by}
use Rattle.conversations.specs.Answering.{Turned, beside}

-- the turn of a call that is lent these lists, which are as long as the room
pub record CallTurn (sv : Service) (bs : Blocks) (q : Request) (room : ℕ) (out : List ℕ) (r : Answered) (bs' : Blocks) (numbers text out' : List ℕ) : Type 0 where
  pub turned : Turned sv bs (λ m. turn_by q.call room (step m (call_of q.call q.days room))) out r bs' out'
  pub lists : (m : State) → Represents sv bs m → (numbers ≡ (step m q).answer.numbers) × (text ≡ (step m q).answer.text)

-- the turn of a question, whatever service stands beside the blocks
abbrev pub AskTurn : Blocks → Question → List ℕ → List ℕ → List ℕ → ℕ → List ℕ → ℕ → List ℕ → List ℕ → Type 0
AskTurn bs w days numbers text room out place numbers' out' =
    (sv : Service) → Given sv bs → CallTurn sv bs (asking (Ask w) days numbers text) room out (beside sv room place) bs numbers' text out'
