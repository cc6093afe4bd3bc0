-- `register_read::read` meets its contract. The invariant is `State`: reading the rest after the spells so far gives what was to be read. Assumes nothing.
use Rattle.basis.proofs.Prelude.{◌<◌, rules}
use Rattle.refusal.proofs.Numbers.{refused}
use Rattle.register_read.proofs.Progress.{text_long, begin, is_malformed, refuses_entry, refuses_taken, refuses_misplaced, refuses_full, goes_on, gives}
use Rattle.register_read.proofs.read.Goals as goal

pub returns-then-text-gt-TEXT : goal.returns-then-text-gt-TEXT
returns-then-text-gt-TEXT c = search text_long

pub loop-at-init : goal.loop-at-init
loop-at-init c = search begin

pub returns-in_default : goal.returns-in_default
returns-in_default c = search is_malformed

pub returns-in-Err : goal.returns-in-Err
returns-in-Err c = let is = c.in-Err.ensures in search (refuses_entry, refused)

pub returns-then-seen-n : goal.returns-then-seen-n
returns-then-seen-n c = let low : c.in-Some.s.number < 65536 = search rules in let ok = c.in_default-check.ensures in search (refuses_taken, rules)

pub returns-then-not-earlier : goal.returns-then-not-earlier
returns-then-not-earlier c = let ok = c.in_default-check.ensures in search (refuses_misplaced, rules)

pub returns-then-count-eq1024 : goal.returns-then-count-eq1024
returns-then-count-eq1024 c = let ok = c.in_default-check.ensures in search (refuses_full, rules)

pub loop-at-preserved : goal.loop-at-preserved
loop-at-preserved c = let low : c.in-Some.s.number < 65536 = search rules in let ok = c.in_default-check.ensures in search (goes_on, rules)

pub returns : goal.returns
returns c = search gives
