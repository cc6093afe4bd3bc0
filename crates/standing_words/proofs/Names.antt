-- The names of other crates and of the definitions that the proofs use, passed on from one place. Assumes nothing.
pub use Rattle.buffer.{proofs.Over.{over_twice, own_over}, specs.Buffer.over}
pub use Rattle.journal.{proofs.{Journal.{push_full, push_room}, Words.entry_long}, specs.{Journal.blank_entry, Words.{entry_of, entry_words}, declared.Undo.Undo}}
pub use Rattle.model.{proofs.Edits.length-insert, specs.{Edits.insert, declared.Call.{Call, TheVariants.{Amend, Ask, Enter, Publish, Strike, TakeBack, Write}}}}
pub use Rattle.packing.{proofs.{Blocks.{parts_at, parts_length, parts_near, parts_part, put_sets, written_append, written_length}, Words.{spell_long, spell_near, spell_read}}, specs.{Blocks.{Put, put}, Layout.{count_place, depth_place, entry_width, journal_length, last_entry, spell_width, spells_length, standing_length}, Words.{spell_of, spell_words}}}
pub use Rattle.plans.specs.{Plans.{Decides, Decision, Takes, deeper_by, no_plan, number_of, plan_by, plan_of}, declared.Plan.Plan}
pub use Rattle.spell.specs.{Blank.blank, Order.earlier_of, declared.Spell.Spell}
pub use Rattle.spell_places.{proofs.{Changing.{inserted, left_le, put_after}, Lists.{copied, copied_down, remove_none}, Search.lead_at}, specs.{List.{counted_of, left_of, putting, without}, Search.{found_in, lead, place_of, stands_at}, declared.Located.Located}}
pub use Rattle.standing.{proofs.{Packed.{array_long, array_of, entries_long, entry_near, journal_of, put_back, rejoined, spells_long, unpacked_assembled, with_array}, Plans.{applied, changes_by, counts_by, deepens_by, does, notes_by, refuses}}, specs.{Packed.{array_in, assembled, journal_in}, Plans.plan_for, Standing.{After, Wf}, declared.Standing.Standing}}
pub use Rattle.standing_words.specs.{Clauses.{Exchanges, Holds, Notes, Planned, PutsIn, TakesOut, entries_of, spells_of}, Edits.{EditedIn, Laid}}
pub use native.Mathlib.Nat.{add-mul, mul_comm}
unfoldable pub use Rattle.packing.specs.Blocks.{parts, written}
unfoldable pub use Rattle.standing.specs.{Packed.{packed, unpacked}, Standing.Does}
