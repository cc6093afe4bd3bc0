-- How a service and its index stand for the account's state, and the one postcondition of a call. Assumes nothing.
use Rattle.std.specs.Prelude.{ℕ, ◌≡◌, false, eqb, List, Result, Ok, Err}
use Rattle.refusal.specs.Table.{accepted}
use Rattle.refusal.specs.Numbers.{number_of}
use Rattle.standing.specs.Standing.{Wf, list_of, pasts}
use Rattle.model.specs.declared.Call.{Call}
use Rattle.model.specs.declared.Call.TheVariants.{Enter, Amend, Strike, TakeBack, Publish, Write, Ask}
use Rattle.register.specs.Text.{Register}
use Rattle.register.specs.declared.Refused.{Refused}
use Rattle.model.specs.Model.{State, begun, refusal_in, line_in, Request, step}
use Rattle.outcomes.specs.declared.Outcome.{Outcome}
use Rattle.outcomes.specs.Outcomes.{told_of, asking, answer_of}
use Rattle.published_index.specs.Index.{rule_refusal, index_by, Shows, Published}
use Rattle.service.specs.declared.Service.{Service}
use Rattle.service.specs.declared.Stepped.{Stepped}
use Rattle.service.specs.declared.Started.{Started}
use Rattle.service.specs.Places.{read_service, leaves}

-- ---- What stands for the account's state

-- the blocks of words that are lent beside a service: the published index
pub record Blocks : Type 0 where
  pub index : List ℕ

abbrev pub blocks : List ℕ → Blocks
blocks ix = record { index = ix }

-- a service that the calls gave: its standing list is one that they gave
pub record Valid (sv : Service) : Type 0 where
  pub standing : Wf sv.standing

-- the service sv and the blocks bs stand for the state m
pub record Represents (sv : Service) (bs : Blocks) (m : State) : Type 0 where
  pub valid : Valid sv
  pub standing : list_of sv.standing ≡ m.standing
  pub past : pasts sv.standing ≡ m.past
  pub shows : Shows bs.index m.published

-- a service and blocks that the calls gave: the index shows a published list
pub record Given (sv : Service) (bs : Blocks) : Type 0 where
  pub valid : Valid sv
  pub published : Published bs.index

-- ---- The postcondition of a call

-- a call that leaves the service as it was
abbrev pub keeping : Service → Outcome → Stepped
keeping sv o = record { service = sv; outcome = o }

-- THE POSTCONDITION of a call: the service sv with the blocks bs was asked q, and gave r, with bs' in the blocks and numbers and
-- text in the lent lists. For whatever state they stood for, the answer is the account's, and they stand for the state after.
pub record Met (sv : Service) (bs : Blocks) (q : Request) (r : Stepped) (bs' : Blocks) (numbers text : List ℕ) : Type 0 where
  pub given : Given r.service bs'
  pub answer : (m : State) → Represents sv bs m → answer_of r.outcome numbers text ≡ (step m q).answer
  pub after : (m : State) → Represents sv bs m → Represents r.service bs' (step m q).state

-- the same of an edit or a take back, which is lent nothing: whatever blocks and lists stand beside it, they are as they were; and where
-- it is refused, so is the service, of which every place is given
pub record Changed (sv : Service) (c : Call) (r : Stepped) : Type 0 where
  pub valid : Valid r.service
  pub whole : r.service ≡ leaves sv c
  pub kept : eqb r.outcome.refusal accepted ≡ false → r.service ≡ sv
  pub met : (bs : Blocks) (days numbers text : List ℕ) → Given sv bs → Met sv bs (asking c days numbers text) r bs numbers text

-- and of any call that is given to `edit`: one that is neither leaves the service as it was, and 0 is told
abbrev pub Changes : Service → Call → Stepped → Type 0
Changes sv (Enter s) r = Changed sv (Enter s) r
Changes sv (Amend s) r = Changed sv (Amend s) r
Changes sv (Strike k) r = Changed sv (Strike k) r
Changes sv TakeBack r = Changed sv TakeBack r
Changes sv (Publish rule) r = r ≡ keeping sv (told_of accepted)
Changes sv Write r = r ≡ keeping sv (told_of accepted)
Changes sv (Ask w) r = r ≡ keeping sv (told_of accepted)

-- the postcondition of writing
pub record Wrote (sv : Service) (text : List ℕ) (o : Outcome) (text' : List ℕ) : Type 0 where
  pub met : (bs : Blocks) (days numbers : List ℕ) → Given sv bs → Met sv bs (asking Write days numbers text) (keeping sv o) bs numbers text'

-- publish by a rule: the index becomes that of the published list, every word of it, whatever it held before, or stays where there is no
-- such rule; the service is as it was, and no more is told than the refusal
pub record Publishes (sv : Service) (rule : ℕ) (bs : Blocks) (r : Stepped) (bs' : Blocks) : Type 0 where
  pub kept : r.service ≡ sv
  pub outcome : r.outcome ≡ told_of (rule_refusal rule)
  pub index : bs'.index ≡ index_by rule (list_of sv.standing) bs.index

-- ---- The beginning

-- what a reading gives, by its numbers: the service, and the refusal's number with its line, or 0 and 0
pub record Begun : Type 0 where
  pub service : Service
  pub refusal : ℕ
  pub line : ℕ

-- the number of the refusal of what was read, and its line; 0 where it is accepted
abbrev pub number_at : {A : Type 0} → Result A Refused → ℕ
number_at (Ok a) = accepted
number_at (Err met) = number_of met.refusal

abbrev pub line_at : {A : Type 0} → Result A Refused → ℕ
line_at (Ok a) = 0
line_at (Err met) = met.line

-- what a reading gives, as a call returns it
abbrev pub begun_in : Started → Begun
begun_in r = record { service = r.service; refusal = number_at r.outcome; line = line_at r.outcome }

-- a reading: service and blocks stand for the state with which the account begins, and every place of the service is given
pub record Begins (g : Register) (r : Begun) (bs : Blocks) : Type 0 where
  pub whole : r.service ≡ read_service g
  pub represents : Represents r.service bs (begun g)
  pub refusal : r.refusal ≡ refusal_in g
  pub line : r.line ≡ line_in g
