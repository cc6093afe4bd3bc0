-- The contracts of private functions. Assumes nothing.
use Rattle.std.specs.Prelude.{ℕ, ◌+◌, ◌-◌, ◌*◌, ◌≡◌, List, [], ◌++◌, length, take, drop}
use Rattle.model.specs.declared.Call.{Call}
use Rattle.outcomes.specs.declared.Outcome.{Outcome}
use Rattle.outcomes.specs.Outcomes.{asking, answer_of}
use Rattle.service.specs.declared.Service.{Service}
use Rattle.service.specs.declared.Stepped.{Stepped}
use Rattle.service.specs.Service.{Blocks, Met}
use Rattle.coding.specs.declared.Code.{Code}
use Rattle.coding.specs.Coded.{result_width, told}
use Rattle.replay.specs.declared.Made.{Made}
use Rattle.replay.specs.declared.Places.{Places}

-- a list with the results of the call k in their places
abbrev pub tell_at : ℕ → Outcome → List ℕ → List ℕ
tell_at k o l = (take (result_width * k) l ++ told (answer_of o [] [])) ++ drop (result_width * k + result_width) l

-- the places from n up to n + k, which are lent; and the list with u in them
abbrev pub part : ℕ → ℕ → List ℕ → List ℕ
part n k l = take (n + k - n) (drop n l)

abbrev pub put_back : ℕ → ℕ → List ℕ → List ℕ → List ℕ
put_back n k u l = take n l ++ (u ++ drop (n + k - n) (drop n l))

-- the call q of the code c is made as the k-th, lent the lists' parts from the places `at` on: its results stand in their places
pub record Makes (sv : Service) (bs : Blocks) (q : Call) (c : Code) (k : ℕ) (at : Places) (days results numbers text : List ℕ) (r : Made) (bs' : Blocks) (results' numbers' text' : List ℕ) : Type 0 where
  pub stepped : Stepped
  pub ns : List ℕ
  pub ts : List ℕ
  pub met : Met sv bs (asking q (part at.days c.days days) (part at.numbers c.numbers numbers) (part at.text c.text text)) stepped bs' ns ts
  pub long : (length ns ≡ length (part at.numbers c.numbers numbers)) × (length ts ≡ length (part at.text c.text text))
  pub lists : (results' ≡ tell_at k stepped.outcome results) × (numbers' ≡ put_back at.numbers c.numbers ns numbers) × (text' ≡ put_back at.text c.text ts text)
  pub service : r.service ≡ stepped.service
  pub next : r.next ≡ record { days = at.days + c.days; numbers = at.numbers + c.numbers; text = at.text + c.text }
