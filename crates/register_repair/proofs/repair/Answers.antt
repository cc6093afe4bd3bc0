-- `register_repair::repair` meets its contract. Assumes nothing.
use Rattle.basis.proofs.Prelude.{ap, sym, length, length-take-le, arith}
use Rattle.std.proofs.lemmas.Result.{err_from_is_err_and}
use Rattle.register_repair.proofs.Whole.{too_long, known, remarks_short, text_short, given}
use Rattle.register_repair.proofs.repair.Goals as goal

pub returns-then-text-gt-TEXT : goal.returns-then-text-gt-TEXT
returns-then-text-gt-TEXT c = search too_long

pub overflow_sub-dropped : goal.overflow_sub-dropped
overflow_sub-dropped c = let k = known c.if-text-gt-TEXT.false c.sift-sifted.ensures in omega arith

pub overflow_mul-dropped : goal.overflow_mul-dropped
overflow_mul-dropped c = let k = known c.if-text-gt-TEXT.false c.sift-sifted.ensures in omega arith

pub returns-then-remarks-dropped : goal.returns-then-remarks-dropped
returns-then-remarks-dropped c = let k = known c.if-text-gt-TEXT.false c.sift-sifted.ensures in search remarks_short

pub returns-in_err-length : goal.returns-in_err-length
returns-in_err-length c =
    let k = known c.if-text-gt-TEXT.false c.sift-sifted.ensures in
    let p = err_from_is_err_and c.from_residual.result c.from_residual.ensures.1 in
    let written = c.in_err-length.ensures in
    rw (p.1, p.2) (search text_short)

pub slice_bounds-met-end : goal.slice_bounds-met-end
slice_bounds-met-end c = let k = known c.if-text-gt-TEXT.false c.sift-sifted.ensures in omega arith

pub slice_bounds-remark-end : goal.slice_bounds-remark-end
slice_bounds-remark-end c = let k = known c.if-text-gt-TEXT.false c.sift-sifted.ensures in sym (length-take-le c.sift-sifted.result.lines c.sift-sifted.new.met (omega arith))

pub remark-requires-clause-room : goal.remark-requires-clause-room
remark-requires-clause-room c = let k = known c.if-text-gt-TEXT.false c.sift-sifted.ensures in omega (arith, ap length k.said, c.if-remarks-dropped.false)

pub returns : goal.returns
returns c = let k = known c.if-text-gt-TEXT.false c.sift-sifted.ensures in let written = c.in_ok-length.ensures in search given
