-- The contract of `run`, as the prover reads it, by computation: it asks nothing, and ensures the claim. Assumes nothing.
use denote.MutBor.{MutBor}
use denote.Ref.{Bor}
use Rattle.replay.proofs.run.Reads as run-reads
use Rattle.replay.proofs.Names.{Bool, Is, Lfts, List, Ran, Replayed, played_in, refl, ℕ}

pub run_is : (κs : Lfts 6) (new : Bool) (register codes days : Bor (List ℕ)) (results results' numbers numbers' text text' : MutBor (List ℕ)) (r : Ran)
    → Is (run-reads.Pre κs) (run-reads.Post κs) (new, (register, (codes, (days, (results, (numbers, (text, tt))))))) r (new, (register, (codes, (days, (results', (numbers', (text', tt)))))))
    (Unit {0}) (Replayed new register.now codes.now days.now results.now numbers.now text.now (played_in r) results'.now numbers'.now text'.now)
run_is κs new register codes days results results' numbers numbers' text text' r = (refl, refl)
