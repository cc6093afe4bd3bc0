-- k days stand in their places, and the rest is to be read from the place `at`. Assumes nothing.
use Rattle.basis.proofs.Prelude.{drop, length}
use Rattle.requests.specs.Requests.{read_days}
use Rattle.request_lines.proofs.DayLists.{Onward}
use Rattle.request_lines.proofs.read_days.Given as goal

abbrev pub invariant-loop-k : goal.invariant-loop-k
invariant-loop-k l = Onward (read_days (length l.fn.days) (drop l.start l.line)) l.fn.days l.line l.days l.at l.k
