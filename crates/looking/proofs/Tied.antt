-- What the claims say of `look` is its contract itself, as the prover reads it: by computation, and not by copying. `looked_served` (Claims
-- of `conversations`) makes the step of `Spoken` of it. Assumes nothing.
use Rattle.basis.proofs.Prelude.{refl, ℕ, List}
use contract.Lifetimes.{Lfts}
use denote.Ref.{Bor}
use denote.MutBor.{MutBor}
use Rattle.published_index.specs.Index.{Published}
use Rattle.service.{specs.Service.blocks, proofs.Tied.Is}
use Rattle.conversations.specs.{declared.Looked.Looked, Answering.Looks}
use Rattle.looking.proofs.look.Reads as look-reads

pub look_is : (κs : Lfts 6) (room : ℕ) (r : Looked) (index line text : Bor (List ℕ)) (days days' numbers numbers' out out' : MutBor (List ℕ))
    → Is (look-reads.Pre κs) (look-reads.Post κs) (index, (room, (line, (days, (numbers, (text, (out, tt))))))) r (index, (room, (line, (days', (numbers', (text, (out', tt)))))))
    (Published index.now) (Looks (blocks index.now) room line.now days.now numbers.now text.now out.now r days'.now numbers'.now out'.now)
look_is κs room r index line text days days' numbers numbers' out out' = (refl, refl)
