-- `packing::urgency_of` meets its contract. Assumes nothing.
use Rattle.std.specs.Prelude.{Result, Ok, Err}
use Rattle.std.specs.Result.{OkIff, result_unwrap_or}
use Rattle.basis.proofs.Prelude.{◌≡◌, ◌<◌, ℕ, cond, leb, arith, le-leb, lt-leb, ne_eqb}
use Rattle.packing.proofs.Names.{Grade, Urgency, urgency_of}
use Rattle.packing.proofs.urgency_of.Goals as goal

-- a grade of 16 bits, where the value has no more
narrowed : {E : Type 0} (r : Result ℕ E) (v : ℕ) → OkIff r (v < 65536) v → Grade (result_unwrap_or r 0) ≡ cond (leb v 65535) (Grade v) (Grade 0)
narrowed (Ok x) v h = simp (h.1, le-leb v 65535 (omega arith))
narrowed (Err e) v h = simp (lt-leb v 65535 (omega (arith, h)))

pub returns-in-0 : goal.returns-in-0
unfolding urgency_of
returns-in-0 c = rw (c.in-0.is, c.unwrap_or.ensures) (narrowed c.try_from.result c.args.value c.try_from.ensures)

pub returns-in-1 : goal.returns-in-1
unfolding urgency_of
returns-in-1 c = rw (c.in-1.is, c.reading_of.ensures)

pub returns-in_default : goal.returns-in_default
unfolding urgency_of
returns-in_default c = simp (ne_eqb c.args.kind 1 (omega arith), ne_eqb c.args.kind 0 (omega arith))
