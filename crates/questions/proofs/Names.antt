-- The names of other crates and of the definitions that the proofs use, passed on from one place. Assumes nothing.
pub use Rattle.basis.proofs.Prelude.{Bool, List, List-as-Memᴰ, List·getD-map, [], ◌&&◌, ◌<◌, ◌∙◌, ◌∷◌, ◌≡◌, ◌≤◌, ap, arith, both, by_mark, by_test, eq-eqb, eqb, eqb-true, get_or, leb, length, length-map, length-take-le, lt-ltb, map, ne_eqb, rules, refl, suc, sym, take, true, zero, ℕ}
pub use Rattle.calendar.{proofs.Calendar.dated, specs.Calendar.is_day}
unfoldable pub use Rattle.calendar.specs.Calendar.{days_ok}
pub use Rattle.masks.{proofs.Claims.{all_gives, off_gives}, specs.{Answers.{All, Answer, Off, Ticks, ticks_in}, Masks.ticks}}
pub use Rattle.model.{proofs.{Bridge.{Agree, fits_agree, rows_kept}, Edits.one_spell, Effects.cover_does, Claims.{mask_as_days, mask_off, ticking}}, specs.{Effects.{Request, State, gives, refused}, Model.reaching, Questions.{firsts_of, lasts_of, listed, reaches}, declared.{Call.TheVariants.Ask, Question.{Question, TheVariants.{Cover, Day, Days, Mask, Span}}}}}
unfoldable pub use Rattle.model.specs.{Effects.settle, Model.{ask, cover, effect_of}, Questions.{comparisons_of, on_any, rising}}
pub use Rattle.outcomes.{proofs.Answers.{give_told, ticking_told, told}, specs.{Outcomes.{asking, found_of, ticking_of, told_of}, declared.Outcome.Outcome}}
pub use Rattle.published_index.proofs.Shown.{in_at, number_at, numbers_of, published_built, shows_rows}
pub use Rattle.questions.specs.Asked.{Asked}
pub use Rattle.refusal.specs.{Numbers.number_of, Table.{off_calendar, unknown_number}, declared.Refusal.{Refusal, TheVariants.OffCalendar}}
pub use Rattle.std.specs.Prelude.{Ok}
pub use Rattle.spell.{proofs.Listing.stands_none, specs.{Blank.blank, Listing.distinct, declared.Spell.Spell}}
pub use Rattle.stabbing.{proofs.Marks.{Below, below_is}, specs.{Answer.{Gave, Told, contains_any, cover_in, day_in, days_in, give, span_in}, Index.{firsts, lasts, numbers}, Tree.{below, fits_at, formula, keep, start}}}
unfoldable pub use Rattle.stabbing.specs.{Answer.{cover_of, covering, day_of, days_of, meets, question, rising_from, span_of}, Index.named}
