-- The names of other crates and of the definitions that the proofs use, passed on from one place. Assumes nothing.
pub use Rattle.buffer.{proofs.Over.{over_blank, over_length, over_twice, own_over}, specs.Buffer.over}
pub use Rattle.model.{proofs.{Checks.{amends, enters}, Edits.{length-insert, orderly_insert, orderly_none, orderly_remove, orderly_replace, remove_insert, remove_none, removed_gone}}, specs.{Edits.{insert, replace}, declared.Call.{Call, TheVariants.{Enter, Amend, Strike, TakeBack, Publish, Write, Ask}}}}
unfoldable pub use Rattle.model.specs.{Edits.{amend_refusal, enter_refusal, front_or, idle, insert_by, remember, remove, rest_of, strike_refusal, take_back_refusal}, Model.begun}
pub use Rattle.packing.{proofs.{Blocks.{every_same, put_first, put_long, read_back, written_length}, Words.{spell_back, spell_long, spell_near}}, specs.{Layout.{spell_width, entry_width, spells_length, journal_length, count_place, depth_place, standing_length}, Blocks.PutAll, Words.Narrow}}
unfoldable pub use Rattle.packing.specs.{Blocks.{Every, parts, written}, Words.{spell_of, spell_words}}
pub use Rattle.refusal.specs.Table.{accepted, no_history, unknown_number}
pub use Rattle.register.{proofs.Texts.written_read, specs.Text.{Register, bad, good}}
unfoldable pub use Rattle.register.specs.{Answers.reading_of, Text.read_text}
pub use Rattle.spell.{proofs.Order.text_order, specs.{Blank.blank, Listing.{Good, Sound}, declared.{Spell.Spell, Urgency.TheVariants.Grade}}}
unfoldable pub use Rattle.spell.specs.{Listing.{Each, stands}, Order.earlier_of, Same.same_of}
pub use Rattle.journal.{proofs.{Journal.pop, Past.{goods_take, length_past, past_pushed}, Words.{entry_back, entry_long}}, specs.{Journal.{blank_entry, newest_first, noting, newest_of}, declared.Undo.Undo}}
unfoldable pub use Rattle.journal.specs.Words.{entry_of, entry_words}
pub use Rattle.spell_places.{proofs.{Found.insert_remove, Changing.counted_is}, specs.{List.{changing, counted_of, putting, without}, Search.{found_in, stands_at}, declared.Located.Located}}
unfoldable pub use Rattle.spell_places.specs.Search.{lead}
pub use Rattle.plans.{specs.{Plans.{Decides, Decision, deeper_by, no_plan, plan_by, plan_amend, plan_back, plan_enter, plan_strike}, declared.Plan.Plan}, proofs.Plans.{Makes, Undoes, amend_idles, amend_leaves, amend_makes, back_leaves, back_undoes, deeper_noted, enter_leaves, enter_makes, none_keeps, strike_leaves, strike_makes}}
unfoldable pub use Rattle.plans.specs.Plans.{number_of, plan_of, Takes}
pub use Rattle.standing.specs.{Plans.plan_for, Packed.{Packs, array_in, assembled, journal_in}, Places.{entering, fresh_standing, holding, loaded_of, noted, relisted, replacing}, Standing.{After, Edits, Fresh, TakesBack, Wf, after_edit, after_reading, after_take_back, entries, list_of, makes, pasts, Keeps}, declared.Standing.Standing}
unfoldable pub use Rattle.standing.specs.{Packed.{packed, unpacked}, Standing.{Does, Goods, past_of, undo}}
