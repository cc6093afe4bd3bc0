-- The names of other crates and of the definitions that the proofs use, passed on from one place. Assumes nothing.
pub use Rattle.basis.proofs.Prelude.{Bool, List, List·getD-eq-default, [], ◌%◌, ◌&&◌, ◌++◌, ◌+◌, ◌-◌, ◌<◌, ◌∙◌, ◌∷◌, ◌≡◌, ◌≢◌, ◌≤◌, add-one, ap, append_assoc, append-nil, arith, both, by_eq, by_mark, by_test, clash, drop, drop-cons, drop_of_length-le, eq-eqb, eqb, eqb-false, eqb-true, ext_get_or, false, get_or, get_or-drop, get_or-replicate, get_or-set_other, get_or-set_same, get_or-take, le-leb, le-ltb, le_refl, leb, leb-false, leb-true, length, length-append, length-drop, length-replicate, length-set, length-take, length-take-le, lt-leb, lt-ltb, ltb, ltb-false, ltb-true, ne_eqb, rules, not, not-false, not-true, refl, replicate, set, suc, sym, take, take-add, take_all, take_at, take-suc-set, take-take, true, untrue, zero, zero-le, ℕ}
pub use Rattle.stabbing.{proofs.{Columns.{column_at, column_length, column_only}, Links.{bottom_is, child_is, head_false, left_is, next_none, next_some, parent_ge, parent_is}, Marking.{child_small, head_link_lem, head_none, head_past, left_small, next_small, row_link_lem, row_past}, Marks.{below_hit, below_is, below_miss, below_skip}, Starts.{latest_before, latest_is, nearest_is, start_nearest}}, specs.{Clauses.{Head, bottom}, Index.{bucket_count, bucket_of, bucket_table, capacity, child_column, day_count, first_column, head_link, index_length, last_column, last_of, latest_table, left_column, lower_column, may_follow, next_column, parent_column, row_count, row_link, row_ok, rows_ok, start_table}}, specs.Stored.Sorted, specs.Tree.day_at}
unfoldable pub use Rattle.stabbing.specs.{Index.{block_of, column, in_bucket, laid, rows_after}, Stored.{latest}, Tree.{below, child, head, last_child, left_sibling, next, parent, start}}
pub use Rattle.stabbing_index.specs.{Clauses.{AdvanceAt, Chained, ClimbAt, Climbed, Under, lasts_to, Columns, ColumnsOf, DayAt, Dayed, DaysAsks, DaysAt, Extends, Grown, HeadAt, Linked, Named, RowsOf, beside, head_at, lower_word, mark_words, name_words}, declared.Way.Way}
unfoldable pub use Rattle.stabbing_index.specs.Clauses.{day_words, link_words}
