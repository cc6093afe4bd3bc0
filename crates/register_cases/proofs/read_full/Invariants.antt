-- The loop's invariant: what is read lies within the list. The measure is the room that is left.
use Rattle.std.proofs.Common.{◌≡◌, ◌-◌, ◌≤◌, length}
use Rattle.register_cases.proofs.read_full.Given as goal

abbrev pub invariant-loop-done : goal.invariant-loop-done
invariant-loop-done l = (length l.list ≡ length l.fn.list) × (l.done ≤ length l.list)

abbrev pub decreases-loop-done : goal.decreases-loop-done
decreases-loop-done l = length l.list - l.done
