-- `framing::take_text`: what the bytes from the place on make is what they made at first. Assumes nothing.
use Rattle.framing.proofs.{Names.{Kept, List, ◌+◌, ◌≡◌, ◌≤◌, length, ℕ}, Steps.{made}}
use Rattle.framing.proofs.take_text.Given as goal

abbrev pub invariant-loop : goal.invariant-loop
invariant-loop l =
    (l.m ≤ 65536) × (l.at ≤ length l.arrived) × (l.left + l.counter ≡ l.wanted) × Kept l.m l.fn.payload l.payload
    × ((line : List ℕ) → made l.n line l.payload l.m l.arrived l.left l.at ≡ made l.n line l.fn.payload l.fn.m l.arrived l.wanted l.from)
