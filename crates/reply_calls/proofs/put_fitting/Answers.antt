-- `reply_calls::put_fitting` meets its contract: a refused call, and each shape. Assumes nothing.
use Rattle.basis.proofs.Prelude.{sym, length-take-le, rules}
use Rattle.replies.specs.Replies.{shape_text}
use Rattle.reply_calls.proofs.Counted.{listed_counted, several_counted}
use Rattle.reply_calls.proofs.Shapes.{few, sends_refused, sends_shape}
use Rattle.reply_calls.proofs.put_fitting.Goals as goal

pub returns-then-o-ne-ACCEPTED : goal.returns-then-o-ne-ACCEPTED
unfolding shape_text
returns-then-o-ne-ACCEPTED c = search sends_refused

pub slice_bounds-put_written-end : goal.slice_bounds-put_written-end
unfolding shape_text
slice_bounds-put_written-end c = sym (search length-take-le)

pub put_written-requires : goal.put_written-requires
unfolding shape_text
put_written-requires c = search (few, rules)

pub slice_bounds-put_listed-end : goal.slice_bounds-put_listed-end
unfolding shape_text
slice_bounds-put_listed-end c = sym (search length-take-le)

pub put_listed-requires : goal.put_listed-requires
unfolding shape_text
put_listed-requires c = search (few, rules)

pub slice_bounds-put_listed-end-in-Several : goal.slice_bounds-put_listed-end-in-Several
unfolding shape_text
slice_bounds-put_listed-end-in-Several c = sym (search length-take-le)

pub put_listed-requires-in-Several : goal.put_listed-requires-in-Several
unfolding shape_text
put_listed-requires-in-Several c = search (few, rules)

pub slice_bounds-put_ticked-end : goal.slice_bounds-put_ticked-end
unfolding shape_text
slice_bounds-put_ticked-end c = sym (search length-take-le)

pub put_ticked-requires : goal.put_ticked-requires
unfolding shape_text
put_ticked-requires c = search (few, rules)

pub returns-in-Ok : goal.returns-in-Ok
unfolding shape_text
returns-in-Ok c = search sends_shape

pub returns-in-Text : goal.returns-in-Text
unfolding shape_text
returns-in-Text c = search sends_shape

pub returns-in-Listed : goal.returns-in-Listed
unfolding shape_text
returns-in-Listed c = let s = rw listed_counted at c.put_listed.ensures in search sends_shape

pub returns-in-Several : goal.returns-in-Several
unfolding shape_text
returns-in-Several c = let s = rw several_counted at c.put_listed-in-Several.ensures in search sends_shape

pub returns-in-Ticked : goal.returns-in-Ticked
unfolding shape_text
returns-in-Ticked c = search sends_shape
