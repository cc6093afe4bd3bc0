-- Each expectation follows from the contract of `replay::run` and the account's computed answers.
use Rattle.replay_cases.proofs.Computed.{made, told_at, listed_at, written_at}
use Rattle.replay_cases.proofs.main.Goals as goal

pub expect-requires : goal.expect-requires
expect-requires c = search made

pub expect-requires-2 : goal.expect-requires-2
expect-requires-2 c = search told_at

pub expect-requires-3 : goal.expect-requires-3
expect-requires-3 c = search told_at

pub expect-requires-4 : goal.expect-requires-4
expect-requires-4 c = search told_at

pub expect-requires-5 : goal.expect-requires-5
expect-requires-5 c = search told_at

pub expect-requires-6 : goal.expect-requires-6
expect-requires-6 c = search told_at

pub expect-requires-7 : goal.expect-requires-7
expect-requires-7 c = search listed_at

pub expect-requires-8 : goal.expect-requires-8
expect-requires-8 c = search listed_at

pub expect-requires-9 : goal.expect-requires-9
expect-requires-9 c = search listed_at

pub expect-requires-10 : goal.expect-requires-10
expect-requires-10 c = search told_at

pub expect-requires-11 : goal.expect-requires-11
expect-requires-11 c = search listed_at

pub expect-requires-12 : goal.expect-requires-12
expect-requires-12 c = search told_at

pub expect-requires-13 : goal.expect-requires-13
expect-requires-13 c = search written_at

pub expect-requires-14 : goal.expect-requires-14
expect-requires-14 c = search written_at

pub expect-requires-15 : goal.expect-requires-15
expect-requires-15 c = search written_at

pub expect-requires-16 : goal.expect-requires-16
expect-requires-16 c = search told_at

pub expect-requires-17 : goal.expect-requires-17
expect-requires-17 c = search told_at

pub expect-requires-18 : goal.expect-requires-18
expect-requires-18 c = search told_at
