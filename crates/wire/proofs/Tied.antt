-- What the claims say of `carry` and `restart` is their contracts themselves, as the prover reads them: by computation, and not by
-- copying. Of the first `carried_served` (Claims of `conversations`) makes the step of `Spoken`. Assumes nothing.
use Rattle.basis.proofs.Prelude.{refl, ℕ, List}
use contract.Lifetimes.{Lfts}
use denote.Ref.{Bor}
use denote.MutBor.{MutBor}
use Rattle.service.{specs.{declared.Service.Service, Service.{blocks, Given}}, proofs.Tied.Is}
use Rattle.conversations.specs.{declared.{Answered.Answered, Wanted.Wanted}, Answering.{Restarted, Answers, asked_in, room_of}}
use Rattle.wire.proofs.carry.Reads as carry-reads
use Rattle.wire.proofs.restart.Reads as restart-reads

module _ (sv : Service) (room n : ℕ) (w : Wanted) (r : Answered) (payload days : Bor (List ℕ))
    (index index' numbers numbers' text text' out out' : MutBor (List ℕ)) where
  pub carry_is : (κs : Lfts 6) → Is (carry-reads.Pre κs) (carry-reads.Post κs) (sv, (index, (room, (w, (payload, (days, (numbers, (text, (out, tt))))))))) r
      (sv, (index', (room, (w, (payload, (days, (numbers', (text', (out', tt)))))))))
      (Given sv (blocks index.now))
      (Answers sv (blocks index.now) (room_of room) (asked_in w days.now) payload.now numbers.now text.now out.now r
      (blocks index'.now) numbers'.now text'.now out'.now)
  carry_is κs = (refl, refl)

  pub restart_is : (κs : Lfts 3)
      → Is (restart-reads.Pre κs) (restart-reads.Post κs) (index, (room, (n, (payload, (out, tt))))) r (index', (room, (n, (payload, (out', tt)))))
      (Unit {0}) (Restarted (room_of room) n payload.now out.now r (blocks index'.now) out'.now)
  restart_is κs = (refl, refl)
