-- The exported function asks nothing of its caller, and ensures what its definition says, as the prover reads its contract: by computation. Assumes nothing.
use denote.Ref.{Bor}
use denote.MutBor.{MutBor}
use Rattle.framing.proofs.Names.{HostAdvances, Frame, Lfts, List, ◌≡◌, refl, ℕ}
use Rattle.streams.specs.declared.Advanced.{Advanced}
use Rattle.framing_c.proofs.phayaklit_advance.Reads as export-reads

module _ (κs : Lfts 3) (f : Frame) (from : ℕ) (arrived : Bor (List ℕ)) (line line' payload payload' : MutBor (List ℕ)) where
  pub export_requires_is : export-reads.Pre κs (f, (arrived, (from, (line, (payload, tt))))) ≡ Unit {0}
  export_requires_is = refl

  pub export_ensures_is : (r : Advanced) → export-reads.Post κs (f, (arrived, (from, (line, (payload, tt))))) r (f, (arrived, (from, (line', (payload', tt)))))
      ≡ HostAdvances f arrived.now from line.now payload.now r line'.now payload'.now
  export_ensures_is r = refl
