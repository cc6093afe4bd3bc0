-- `register_write::write` meets its contract. The invariant is `Back`: the text of the spells that were passed stands at the end. Assumes nothing.
use Rattle.basis.proofs.Prelude.{rules, unmapped}
use Rattle.register_write.proofs.Backward.{back_start, back_room, back_step}
use Rattle.register_write.proofs.write.Goals as goal

pub loop-s-init : goal.loop-s-init
loop-s-init c = search (back_start, unmapped, rules)

pub put_line-at-requires : goal.put_line-at-requires
put_line-at-requires c = let last = c.in-Some.ensures.steps in search back_room

pub loop-s-preserved : goal.loop-s-preserved
loop-s-preserved c = let last = c.in-Some.ensures.steps in search back_step
