-- `stabbing_days::skip` meets its contract: each goal is a step of `proofs/Skipping.antt`. Assumes nothing.
use Rattle.basis.proofs.Prelude.{rules}
use Rattle.std.proofs.lemmas.List.Sorted.{IsPartitionPoint-from_clause}
use Rattle.stabbing_days.proofs.Skipping.{none_found, early, all_old, parted_at}
use Rattle.stabbing_days.proofs.skip.Goals as goal

pub returns-in_default : goal.returns-in_default
returns-in_default c = none_found _ _ c.in_default.ensures.cases

pub returns-then-find-m : goal.returns-then-find-m
returns-then-find-m c = all_old c.requires _ _ c.in-Some.ensures.cases c.find.ensures.value c.if-find-m.true

pub returns : goal.returns
returns c = parted_at c.requires _ _ c.in-Some.ensures.cases c.find.ensures.value c.if-find-m.false c.partition_point.ensures.bound
    (λ z. IsPartitionPoint-from_clause (early c.args.index.now c.args.m) _ _ c.partition_point.ensures.partitioned z (λ a r f' k. search rules))
