-- The names of other crates and of the definitions that the proofs use, passed on from one place. Assumes nothing.
pub use Rattle.fields.{proofs.Places.{here, said}, specs.Fields.{Found, found, unreadable}}
unfoldable pub use Rattle.register.specs.Text.{read_line}
pub use Rattle.register_sift.specs.Clauses.{Judges, Keeps, Marks, Past, Reads}
pub use Rattle.repairing.{proofs.Keeping.{byte_passed, drops_it, keeps_it, lines_first, passes, verdict_none}, specs.Repair.kept_of}
unfoldable pub use Rattle.repairing.specs.Repair.{after_line, keeping, kept_after, later_lines, lines_of, verdict, verdicts_after}
pub use Rattle.spell.{specs.Entry.refusal_of, specs.declared.Spell.Spell}
