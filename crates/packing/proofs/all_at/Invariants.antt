use Rattle.basis.proofs.Prelude.{◌≡◌, length, take}
use Rattle.packing.proofs.Names.{parts}
use Rattle.packing.proofs.all_at.Given as goal

abbrev pub invariant-loop-i : goal.invariant-loop-i
invariant-loop-i g l = (length l.x-items ≡ g.row.N) × (take l.i l.x-items ≡ parts g.T.Packed.WIDTH g.T.Packed.of_words l.i l.words)
