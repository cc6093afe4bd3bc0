-- `stabbing_query::span` meets its contract. Assumes nothing.
use Rattle.basis.proofs.Prelude.{◌∙◌, sym, rules, lt-leb}
use Rattle.stabbing_query.proofs.{Names.{dated, span_of}, Answering.{refusal, span_asks, span_gives}}
use Rattle.refusal.specs.declared.Refusal.TheVariants.{OffCalendar, Reversed}
use Rattle.stabbing_query.proofs.span.Goals.{then-not-is_day-via-then-not-is_day, then-not-is_day-via-else-not-is_day+then-not-is_day-2}
use Rattle.stabbing_query.proofs.span.Goals as goal

-- one of the two days is off the calendar
pub returns-then-not-is_day : goal.returns-then-not-is_day
returns-then-not-is_day c = unfold span_of in refusal OffCalendar (elim c.then-not-is_day.branch [
  | then-not-is_day-via-then-not-is_day w ↦ rw (sym c.is_day.ensures ∙ w.if-not-is_day.true, span_of)
  | then-not-is_day-via-else-not-is_day+then-not-is_day-2 w ↦ rw (
    sym c.is_day.ensures ∙ w.if-not-is_day.false,
    sym w.is_day-else-not-is_day.ensures ∙ w.if-not-is_day-2.true,
    span_of,
  )
])

pub returns-then-b-a : goal.returns-then-b-a
returns-then-b-a c = unfold span_of in refusal Reversed
    (rw (sym c.is_day.ensures ∙ c.if-not-is_day.false, sym c.is_day-else-not-is_day.ensures ∙ c.if-not-is_day-2.false, span_of)
    (rw (lt-leb _ _ c.if-b-a.true, span_of)))

pub span_start-requires : goal.span_start-requires
span_start-requires c = record { built = search rules; a_le_b = search rules; b_bound = (dated _ (sym c.is_day-else-not-is_day.ensures ∙ c.if-not-is_day-2.false)).1 }

pub answer-requires : goal.answer-requires
answer-requires c = search span_asks

pub returns : goal.returns
returns c = search span_gives
