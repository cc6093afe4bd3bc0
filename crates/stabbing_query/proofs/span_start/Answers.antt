-- `stabbing_query::span_start` meets its contract: each goal is a step of `proofs/Answering.antt`. Assumes nothing.
use Rattle.basis.proofs.Prelude.{rules}
use Rattle.stabbing_query.proofs.Answering.{span_none, begun_word, span_before, span_within}
use Rattle.stabbing_query.proofs.span_start.Goals as goal

pub returns-then-m-eq0 : goal.returns-then-m-eq0
returns-then-m-eq0 c = search span_none

pub bounds-index-m : goal.bounds-index-m
bounds-index-m c = search (begun_word, rules)

pub returns-then-index-m : goal.returns-then-index-m
returns-then-index-m c = search span_before

pub returns : goal.returns
returns c = search span_within
