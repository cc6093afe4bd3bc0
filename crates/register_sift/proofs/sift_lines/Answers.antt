-- `register_sift::sift_lines` meets its contract. The invariant is `State`: the lines so far are kept or dropped. Assumes nothing.
use Rattle.basis.proofs.Prelude.{◌<◌, rules}
use Rattle.register_sift.proofs.Sifting.{begins, drops, keeps_one, ends}
use Rattle.register_sift.proofs.sift_lines.Goals as goal
use Rattle.register_sift.proofs.sift_lines.Goals.{in-Ok, in-Err}

pub loop-at-init : goal.loop-at-init
loop-at-init c = search begins

pub loop-at-preserved : goal.loop-at-preserved
loop-at-preserved c = elim c.match-judge.branch [
  | in-Ok w ↦
      let low : w.in-Ok.s.number < 65536 = search rules in
      let judged = w.in-Ok.ensures in
      rw (w.met-is, w.spells-is, w.seen-is, w.count-is) (search keeps_one)
  | in-Err w ↦
      let judged = w.in-Err.ensures in
      rw (w.met-is, w.spells-is, w.seen-is, w.count-is, w.number.ensures) (search drops)
]

pub returns : goal.returns
returns c = search ends
