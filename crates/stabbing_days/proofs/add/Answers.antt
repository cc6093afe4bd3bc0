-- `stabbing_days::add` meets its contract: each goal is a step of `proofs/Several.antt`. Assumes nothing.
use Rattle.basis.proofs.Prelude.{rules}
use Rattle.stabbing_days.proofs.Several.{not_refused, count_within, counted, f_in, f_within, adds}
use Rattle.stabbing_days.proofs.add.Goals as goal

-- the day is not refused
pub unwrap-k-requires : goal.unwrap-k-requires
unwrap-k-requires c = search not_refused

-- the first k places, lent to `skip` and to `close`
pub slice_bounds-skip-end : goal.slice_bounds-skip-end
slice_bounds-skip-end c = search count_within

pub slice_bounds-skip-end-2 : goal.slice_bounds-skip-end-2
slice_bounds-skip-end-2 c = search counted

pub slice_bounds-close-end : goal.slice_bounds-close-end
slice_bounds-close-end c = search count_within

pub slice_bounds-close-end-2 : goal.slice_bounds-close-end-2
slice_bounds-close-end-2 c = search counted

pub close-requires : goal.close-requires
close-requires c = search (f_within, rules)

pub overflow_sub-result : goal.overflow_sub-result
overflow_sub-result c = search f_in

pub returns : goal.returns
returns c = search adds
