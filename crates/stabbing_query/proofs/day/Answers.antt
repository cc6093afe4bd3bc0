-- `stabbing_query::day` meets its contract: each goal is a step of `proofs/Answering.antt`. Assumes nothing.
use Rattle.basis.proofs.Prelude.{◌∙◌, sym}
use Rattle.stabbing_query.proofs.{Names.day_of, Answering.{refusal, day_word, day_asks, day_gives}}
use Rattle.refusal.specs.declared.Refusal.TheVariants.{OffCalendar}
use Rattle.stabbing_query.proofs.day.Goals as goal

pub returns-then-not-is_day : goal.returns-then-not-is_day
returns-then-not-is_day c = unfold day_of in refusal OffCalendar (rw (sym c.is_day.ensures ∙ c.if-not-is_day.true, day_of))

pub bounds-index-from : goal.bounds-index-from
bounds-index-from c = search day_word

pub answer-requires : goal.answer-requires
answer-requires c = search day_asks

pub returns : goal.returns
returns c = search day_gives
