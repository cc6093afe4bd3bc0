-- `stabbing_index::fill` meets its contract: the columns make the block, and the count is its last word. Assumes nothing.
use Rattle.stabbing_index.proofs.{Names.{arith, length-set}, Assembling.filled}
use Rattle.stabbing_index.proofs.fill.Goals as goal

pub shape_of-index : goal.shape_of-index
shape_of-index c = rw length-set (omega arith)

pub returns : goal.returns
returns c = filled _ _ _ c.requires.rows_of c.requires.index_len
    c.lay_rows.ensures c.lay_rows-2.ensures c.lay_rows-3.ensures c.lay_tree.ensures c.lay_names.ensures
