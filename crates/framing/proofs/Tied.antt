-- The step of `Heard` is the contract of `advance` itself, as the prover reads it: by computation, and not by copying. Neither `advance`
-- nor its form for a host asks anything of its caller. Assumes nothing.
use denote.Ref.{Bor}
use denote.MutBor.{MutBor}
use Rattle.framing.proofs.advance.Reads as advance-reads
use Rattle.framing.proofs.phayaklit_advance.Reads as host-reads
use Rattle.framing.proofs.Names.{Advances, Frame, Framed, Lfts, List, ◌≡◌, refl, ℕ}

module _ (κs : Lfts 3) (f : Frame) (from : ℕ) (arrived : Bor (List ℕ)) (line line' payload payload' : MutBor (List ℕ)) where
  pub requires_is : advance-reads.Pre κs (f, (arrived, (from, (line, (payload, tt))))) ≡ Unit {0}
  requires_is = refl

  pub host_requires_is : host-reads.Pre κs (f, (arrived, (from, (line, (payload, tt))))) ≡ Unit {0}
  host_requires_is = refl

  pub ensures_is : (r : Framed) → advance-reads.Post κs (f, (arrived, (from, (line, (payload, tt))))) r (f, (arrived, (from, (line', (payload', tt)))))
      ≡ Advances f arrived.now from line.now payload.now r line'.now payload'.now
  ensures_is r = refl
