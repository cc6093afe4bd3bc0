-- The names of other crates and of the definitions that the proofs use, passed on from one place. Assumes nothing.
pub use Rattle.basis.proofs.Prelude.{Bool, List, [], ◌++◌, ◌+◌, ◌-◌, ◌<◌, ◌∙◌, ◌∷◌, ◌≡◌, ◌≤◌, add-one, ap, arith, by_test, drop, drop-cons, drop-drop, drop-length, drop_of_length-le, drop-set-lt, eq-eqb, false, get_or, leb, leb-false, leb-true, length, length-append, length-set, length-take, length-take-le, ne_eqb, rules, not, not-false, not-true, refl, set, suc, sym, take, take_all, take-append_seam, take-length, take-suc-set, true, ℕ}
pub use Rattle.std.proofs.Common.{Option, Some, None, min}
pub use Rattle.framing.specs.{Clauses.{PlaceIn, Keeps, TakesLine, TakesText, taken_of}}
pub use Rattle.streams.specs.{Advancing.{Advances, HostAdvances, Kept, Progress, advanced_of, after, done, going, line_in, partial_of, progress_of, ready, refused_frame, sent_of}, Stream.{Partial, in_line}, declared.{Advanced.Advanced, Frame.Frame, Framed.{Framed, TheVariants.{Part, Whole}}}}
unfoldable pub use Rattle.streams.specs.{Advancing.{next, part_of, through}, Stream.{feed, kept, line_fed, settled, wants}}
pub use contract.Lifetimes.{Lfts}
pub use denote.Ref.{Bor}
