-- `stabbing_index::link_head` meets its contract: each goal is a step of `proofs/Links.antt`. Assumes nothing.
use Rattle.stabbing_index.proofs.Links.{steps}
use Rattle.stabbing_index.proofs.link_head.Goals as goal

pub climb-w-requires : goal.climb-w-requires
climb-w-requires c = search steps

pub returns-then-up-eq0 : goal.returns-then-up-eq0
returns-then-up-eq0 c = search steps

pub returns : goal.returns
returns c = search steps
