-- `stabbing_days::on_calendar` meets its contract. Assumes nothing.
use Rattle.basis.proofs.Prelude.{◌≡◌, true, false, rules}
use borrow.Author.Tests.{tests}
use Rattle.std.proofs.lemmas.Iterator.{cases_from_all, YieldsList-from_slice}
use Rattle.calendar.specs.Calendar.{is_day}
use Rattle.stabbing_days.proofs.Several.{days_checked}
use Rattle.stabbing_days.proofs.on_calendar.Goals as goal

pub returns : goal.returns
returns c = days_checked c.args.days.now _
    (cases_from_all _ _ _ (λ d. is_day d ≡ true) (λ d. is_day d ≡ false) c.all.ensures.ran (YieldsList-from_slice c.args.days.now cc) (λ x q k. search (rules, tests)) (λ x q k. search (rules, tests)))
