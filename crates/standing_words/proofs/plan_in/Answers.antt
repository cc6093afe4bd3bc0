-- `standing_words::plan_in` meets its contract: what stands in the words is found, and the call is planned on it. Assumes nothing.
use Rattle.basis.proofs.Prelude.{◌∙◌}
use Rattle.standing_words.proofs.{Edits.{count_within, planned_in}, Names.{array_long}}
use Rattle.standing_words.proofs.plan_in.Goals as goal

pub find-found-requires : goal.find-found-requires
find-found-requires c = record { n_bound = rw c.from-n.ensures (count_within c.args.words.now c.requires.wf); words_len = search array_long }

pub returns : goal.returns
returns c = planned_in c.args.words.now c.args.call c.requires.words_len c.requires.wf (c.last_place.ensures ∙ rw c.from-d.ensures) c.at-e.ensures c.number_of.ensures
    (c.find-found.ensures ∙ rw c.from-n.ensures) (rw (c.from-n.ensures, c.from-d.ensures) at c.planned.ensures.value) c.planned.ensures.takes
