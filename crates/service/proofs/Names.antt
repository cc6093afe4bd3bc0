-- The names of other crates and of the definitions that the proofs use, passed on from one place. Assumes nothing.
pub use Rattle.model.{proofs.Claims.reads_keep, specs.declared.Call.Call, specs.declared.Question.Question, specs.{Edits.{insert, replace}, Effects.{Effect, State, done, refused, with_standing, writes}, Journal.reads, Model.{Answer, Request, become, edit, fresh, line_in, refusal_in, step, with_published}, declared.Call.TheVariants.{Amend, Ask, Enter, Publish, Strike, TakeBack, Write}}}
unfoldable pub use Rattle.model.{specs.{Edits.{amend_refusal, enter_refusal, front_or, idle, remember, remove, rest_of, strike_refusal, take_back_refusal}, Model.{begun, effect_of, run, take_back}}, specs.Effects.settle}
pub use Rattle.outcomes.{specs.Outcomes.{answer_of, asking, told_of, wrote_of}, specs.declared.Outcome.Outcome}
pub use Rattle.published_index.specs.Index.{Published, index_of}
pub use Rattle.refusal.specs.Table.{accepted}
pub use Rattle.register.specs.Text.{Register, bad, good, write_all}
unfoldable pub use Rattle.register.specs.Text.{read_text}
pub use Rattle.service.specs.{History.{Made, Steps, none, then}, Places.{fresh_service, leaves, service_of}, Service.{Begins, Begun, Blocks, Changed, Changes, Given, Met, Publishes, Represents, Valid, Wrote, begun_in, blocks, keeping}, declared.Service.Service, declared.Started.Started, declared.Stepped.Stepped}
unfoldable pub use Rattle.service.specs.Places.{leaves_of}
pub use Rattle.spell.specs.declared.Spell.{Spell}
pub use Rattle.standing.specs.{Places.{entering, loaded_of, replacing}, Standing.{Edits, Fresh, TakesBack, Wf, after_edit, list_of, makes, pasts}}
unfoldable pub use Rattle.standing.specs.Standing.{Does}
