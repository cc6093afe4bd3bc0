-- `standing_words::edit_in` meets its contract: the plan of the call is carried out. Assumes nothing.
use Rattle.basis.proofs.Prelude.{◌∙◌, ◌<◌, rules}
use Rattle.standing_words.proofs.{Edits.{count_within, depth_fits, edited, refused}, Names.{array_long}}
use Rattle.std.proofs.lemmas.Result.{err_from_is_err_and}
use Rattle.standing_words.proofs.edit_in.Goals as goal

pub returns-in_err-plan : goal.returns-in_err-plan
returns-in_err-plan c =
    let p = err_from_is_err_and c.from_residual.result c.from_residual.ensures.1 in
    rw (p.1, p.2) (refused c.args.words.now c.args.call _ c.in_err-plan.ensures)

pub overflow_cast-depth : goal.overflow_cast-depth
overflow_cast-depth c =
    let fits : c.deeper-depth.result < 65536 = depth_fits c.args.words.now c.args.call c.in_ok-plan.plan c.in_ok-plan.ensures (c.deeper-depth.ensures ∙ rw c.is_some-2.ensures) in search rules

pub change-requires : goal.change-requires
change-requires c = record { n_bound = rw c.from-n.ensures (count_within c.args.words.now c.requires.wf); words_len = search array_long }

pub returns : goal.returns
returns c = edited c.args.words.now c.args.call c.in_ok-plan.plan c.in_ok-plan.ensures (rw c.from-n.ensures at c.change.ensures) c.note.ensures
    (c.counted-count.ensures ∙ rw (c.is_some.ensures, c.from-n.ensures)) (c.deeper-depth.ensures ∙ rw c.is_some-2.ensures)
