-- `stabbing_index::lay_days` meets its contract. Assumes nothing.
use Rattle.stabbing_index.proofs.Assembling.{days_laid, steps}
use Rattle.stabbing_index.proofs.lay_days.Goals as goal

pub day_tables-requires-clause-dayed_of : goal.day_tables-requires-clause-dayed_of
day_tables-requires-clause-dayed_of c = search steps

pub returns : goal.returns
returns c = days_laid c.day_tables.ensures c.lay.ensures c.lay-2.ensures
