-- The names of other crates and of the definitions that the proofs use, passed on from one place. Assumes nothing.
pub use Rattle.basis.proofs.Prelude.{Bool, List, List·getD-append, [], ◌&&◌, ◌*◌, ◌++◌, ◌+◌, ◌-◌, ◌<◌, ◌||◌, ◌∙◌, ◌∷◌, ◌≡◌, ◌≢◌, ◌≤◌, ap, append_assoc, append-nil, arith, both, by_cases, by_eq, by_mark, by_test, clash, drop, eq-eqb, eqb, eqb-false, eqb-true, ext_get_or, false, get_or, get_or-append-add, get_or_at, get_or-drop, get_or-take, le-leb, le-ltb, le_refl, leb, leb-false, leb-true, length, length-append, length-drop, length-take, length-take-le, lt-leb, lt-ltb, ltb, ltb-true, map, ne_eqb, not-false, refl, suc, sym, take, true, untrue, zero, zero-le, ℕ}
unfoldable pub use Rattle.calendar.specs.Calendar.{days_ok}
pub use Rattle.stabbing.specs.{Answer.{Reported, contains_any, refused}, Clauses.{Head, Holds, Stretch, bottom, from}, Index.{Block, Built, Column, bucket_count, bucket_of, bucket_table, by_row, capacity, child_column, first_column, head_link, in_bucket, index_length, last_column, last_of, layout, left_column, lower_column, mark_in, may_follow, next_column, parent_column, row_count, row_link, row_ok, rows, rows_ok}, Stored.Sorted, Tree.{day_at, has_child, has_left, has_next, one, some}, Walk.{Progress, nothing, push, tick}}
unfoldable pub use Rattle.stabbing.specs.{Answer.{cover_of, covering, day_of, days_of, give, meets, question, rising_from, span_of}, Clauses.{above, over}, Index.{block_of, column, firsts, laid, lasts, named, numbers, rows_after}, Stored.{latest, nearest, span_start}, Tree.{below, child, count, fits_at, formula, head, keep, last_child, left_sibling, next, on_path, parent, start}, Walk.{chain, climb, compare, descend, walk}}
pub use mathlib.Core.Bool.{and-false, and-true}
