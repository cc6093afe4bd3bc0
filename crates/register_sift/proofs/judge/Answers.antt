-- `register_sift::judge` meets its contract. Assumes nothing.
use Rattle.basis.proofs.Prelude.{◌<◌, rules}
use Rattle.std.proofs.lemmas.Result.{err_from_is_err_and}
use Rattle.register_sift.proofs.Judging.{unread, not_entered, taken, no_room, passes}
use Rattle.register_sift.proofs.judge.Goals as goal

pub returns-in_default : goal.returns-in_default
returns-in_default c = search unread

pub returns-in_err-check : goal.returns-in_err-check
returns-in_err-check c =
    let p = err_from_is_err_and c.from_residual.result c.from_residual.ensures.1 in
    let is = c.in_err-check.ensures in
    rw (p.1, p.2) (search not_entered)

pub returns-then-seen-from : goal.returns-then-seen-from
returns-then-seen-from c = let low : c.in-Some.s.number < 65536 = search rules in let ok = c.in_ok-check.ensures in search taken

pub returns-then-count-ge1024 : goal.returns-then-count-ge1024
returns-then-count-ge1024 c = let low : c.in-Some.s.number < 65536 = search rules in let ok = c.in_ok-check.ensures in search no_room

pub returns : goal.returns
returns c = let low : c.in-Some.s.number < 65536 = search rules in let ok = c.in_ok-check.ensures in search passes
