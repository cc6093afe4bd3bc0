-- `stabbing_query::cover` meets its contract: each need is a step of `proofs/Answering.antt`. Assumes nothing.
use Rattle.basis.proofs.Prelude.{◌∙◌, sym, rules}
use Rattle.stabbing_query.proofs.{Names.{cover_of, covering}, Answering.{refusal, first_word, cover_asks, cover_gives}}
use Rattle.refusal.specs.declared.Refusal.TheVariants.{UnknownNumber}
use Rattle.stabbing_query.proofs.cover.Goals as goal

pub returns-then-m-eq0 : goal.returns-then-m-eq0
returns-then-m-eq0 c = unfold cover_of covering in refusal UnknownNumber (rw (sym c.find-m.ensures.value ∙ c.if-m-eq0.true))

pub overflow_add-first : goal.overflow_add-first
overflow_add-first c = search (first_word, rules)

pub offset_bounds-index-first : goal.offset_bounds-index-first
offset_bounds-index-first c = search (first_word, rules)

pub bounds-index-first : goal.bounds-index-first
bounds-index-first c = search (first_word, rules)

pub answer-requires : goal.answer-requires
answer-requires c = cover_asks _ _ c.find-m.ensures.value (search) (search) c.from-first.ensures c.from.ensures

pub returns : goal.returns
returns c = cover_gives _ _ c.find-m.ensures.value (search) (search) c.from-first.ensures c.from.ensures _ c.answer.ensures c.decode.ensures
