-- Demand 3 with no driver: whoever makes the calls, the answers are the account's. Assumes nothing.
use Rattle.basis.proofs.Prelude.{◌≡◌, refl, ℕ, List, true}
use Rattle.service.proofs.{Names.{Spell, read_text, Amend, idle, fresh, begun, Request, Answer, step, run, Service, Begun, leaves_of, leaves, Blocks, Represents, Given, Begins, Made, none, then}, Represented.represented}
use Rattle.model.specs.Model.{State}

-- A WHOLE LIST OF CALLS on a service and blocks that stand for m has the answers of the account's own run from m
pub made_run : {sv sv' : Service} {bs bs' : Blocks} {qs : List Request} {answers : List Answer} (m : State)
    → Represents sv bs m → Made sv bs qs answers sv' bs' → answers ≡ run m qs
unfolding run
made_run m s none = refl
made_run m s (then {q = q} r left numbers text met more) = let k = met (represented s) in
    rw (made_run (step m q).state (k.after m s) more, k.answer m s)

-- and the `requires` of every call is met
pub made_given : {sv sv' : Service} {bs bs' : Blocks} {qs : List Request} {answers : List Answer}
    → Given sv bs → Made sv bs qs answers sv' bs' → Given sv' bs'
made_given g none = g
made_given g (then r left numbers text met more) = made_given (met g).given more

-- BEGUN FRESH: what `fresh` ensures of its service and blocks is enough
module _ {sv' : Service} {bs bs' : Blocks} {qs : List Request} {answers : List Answer} where
  pub made_fresh : {sv : Service} → Represents sv bs fresh → Made sv bs qs answers sv' bs' → answers ≡ run fresh qs
  made_fresh s = made_run fresh s

  -- BEGUN ON A REGISTER'S BYTES, a refused reading included: what `read` ensures is enough
  pub made_read : (register : List ℕ) (r : Begun) → Begins (read_text register) r bs → Made r.service bs qs answers sv' bs' → answers ≡ run (begun (read_text register)) qs
  made_read register r b = made_run (begun (read_text register)) b.represents

-- AN IDLE AMEND leaves the whole service as it was
pub idle_left : {sv : Service} {bs : Blocks} {m : State} (s : Spell) → Represents sv bs m → idle m.standing s ≡ true → leaves sv (Amend s) ≡ sv
idle_left s h same = unfold leaves_of in rw (h.standing, same)
