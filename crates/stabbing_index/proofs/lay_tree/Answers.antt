-- `stabbing_index::lay_tree` meets its contract: the links that `link` finds, and the tables by day, one column after another. Assumes
-- nothing.
use Rattle.stabbing_index.proofs.{Names.{arith}, Assembling.{columns_of, days_asked, tree_laid, steps}}
use Rattle.stabbing_index.proofs.lay_tree.Goals as goal

pub link-requires : goal.link-requires
link-requires c = search steps

pub lay_days-requires : goal.lay_days-requires
lay_days-requires c = record {
  days_asks = days_asked _ _ _ c.requires.rows_of c.link.ensures.linked_of_2;
  index_len = omega (arith, c.requires.index_len, c.lay.ensures, c.lay_marks.ensures, c.lay_marks-2.ensures, c.lay_marks-3.ensures);
}

pub returns : goal.returns
returns c = tree_laid (columns_of _ _ _ c.requires.rows_of) c.link.ensures.linked_of_2 c.link.ensures.chained_of_2
    c.lay.ensures c.lay_marks.ensures c.lay_marks-2.ensures c.lay_marks-3.ensures c.lay_days.ensures
