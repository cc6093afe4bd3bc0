-- `stand_lines::day_line` meets its contract: the answer of the day's question, put from its last number to the day. Assumes nothing.
use Rattle.basis.proofs.Prelude.{sym, [], length-take-le, arith, rules}
use Rattle.stand_text.proofs.Lines.{day_known, day_none, day_some}
use Rattle.stand_lines.proofs.day_line.Goals as goal

pub slice_bounds-numbers-end : goal.slice_bounds-numbers-end
slice_bounds-numbers-end c = omega (arith, day_known c.requires (c.day-o.ensures []) (omega arith))

pub slice_bounds-put_numbers-end-2 : goal.slice_bounds-put_numbers-end-2
slice_bounds-put_numbers-end-2 c = sym (length-take-le _ _ (omega (arith, day_known c.requires (c.day-o.ensures []) (omega arith))))

pub returns-then-k-eq0 : goal.returns-then-k-eq0
returns-then-k-eq0 c = day_none (search) (c.day-o.ensures []) (omega arith) (search rules) (search) (search)

pub overflow_cast-o : goal.overflow_cast-o
overflow_cast-o c = omega (arith, day_known c.requires (c.day-o.ensures []) (omega arith))

pub overflow_cast-k : goal.overflow_cast-k
overflow_cast-k c = omega (arith, day_known c.requires (c.day-o.ensures []) (omega arith))

pub returns : goal.returns
returns c = day_some (search) (c.day-o.ensures []) (omega arith) (search rules) c.put_numbers-at_numbers.ensures
    (omega arith) c.put_number-at_comparisons.ensures c.put_number-at_count.ensures c.put_number.ensures
