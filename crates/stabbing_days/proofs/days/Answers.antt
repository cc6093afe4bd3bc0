-- `stabbing_days::days` meets its contract: each goal is a step of `proofs/Several.antt`. Assumes nothing.
use Rattle.basis.proofs.Prelude.{◌∙◌, sym, rules}
use Rattle.refusal.specs.declared.Refusal.TheVariants.{OffCalendar, UnsortedDays}
use Rattle.stabbing.specs.Answer.{days_of}
use Rattle.stabbing_query.proofs.Answering.{refusal}
use Rattle.stabbing_days.proofs.Several.{part_count, part_in, asks_gather, too_many, all_written, none_asked}
use Rattle.stabbing_days.proofs.days.Goals as goal

pub returns-then-not-on_calendar : goal.returns-then-not-on_calendar
returns-then-not-on_calendar c = unfold days_of in refusal OffCalendar (rw (sym c.on_calendar.ensures ∙ c.if-not-on_calendar.true, days_of))

pub returns-then-not-in_order : goal.returns-then-not-in_order
returns-then-not-in_order c = unfold days_of in refusal UnsortedDays (rw (sym c.on_calendar.ensures ∙ c.if-not-on_calendar.false, days_of)
    (rw (sym c.in_order.ensures ∙ c.if-not-in_order.true, days_of)))

pub returns-then-is_empty : goal.returns-then-is_empty
returns-then-is_empty c = none_asked _ _ c.on_calendar.ensures (search) c.in_order.ensures (search) (search) (search rules) _

pub gather-n-requires : goal.gather-n-requires
gather-n-requires c = asks_gather _ _ c.on_calendar.ensures (search) c.in_order.ensures (search) (search) (search rules)

pub returns-then-out-n : goal.returns-then-out-n
returns-then-out-n c = too_many _ _ c.on_calendar.ensures (search) c.in_order.ensures (search) (search) c.gather-n.ensures _ (search)

pub slice_bounds-answer-end : goal.slice_bounds-answer-end
slice_bounds-answer-end c = search (part_in, rules)

pub slice_bounds-put-end : goal.slice_bounds-put-end
slice_bounds-put-end c = search part_count

pub returns : goal.returns
returns c = all_written _ _ c.on_calendar.ensures (search) c.in_order.ensures (search) (search) c.gather-n.ensures _ (search) (search)
