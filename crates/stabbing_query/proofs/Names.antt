-- The names of other crates and of the definitions that the proofs use, passed on from one place. Assumes nothing.
pub use Rattle.calendar.{specs.Calendar.is_day, proofs.Calendar.dated}
pub use Rattle.stabbing.{proofs.{Links.{bottom_is, c_child, child_is, child_stretch, left_is, next_le, own, parent_is}, Steps.{climb_step, descend_step, heads, heads_fall, keep_room, over_is}, Walk.{Went, chain_of_lem, climb_none, compare_no, compare_went, compare_yes, comparisons_formula, descend_went, due, due_hit, due_miss, listing, reach, start_is}}, specs.{Clauses.{Head, Holds, Stretch, bottom}, Index.{Built, child_column, child_last_column, first_column, last_column, last_of, latest_table, left_column, left_last_column, mark_in, next_column, next_last_column, parent_column, start_table}, Tree.{day_at, has_child, has_left, has_next, one, some}, Walk.{Progress, nothing, push, tick}}, specs.Stored.Sorted}
unfoldable pub use Rattle.stabbing.{specs.Clauses.over, specs.{Answer.{cover_of, covering, day_of, span_of}, Index.{firsts, lasts, named, numbers}, Stored.{latest, span_start}, Tree.{child, fits_at, keep, last_child, left_sibling, next, parent, start}, Walk.{chain, climb, compare, descend, walk}}}
pub use Rattle.stabbing_query.specs.Clauses.{ChainAsks, ClimbAsks, DescendAsks, Does, Headed, HeadedMark, Held, LastChild, Now, WalkAsks, below_of, beside_of, chain_of, climb_of, descend_of, listed_of, numbered, start_of, walk_of}
unfoldable pub use Rattle.stabbing_query.specs.Clauses.{decoded}
