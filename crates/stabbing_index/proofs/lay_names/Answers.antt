-- `stabbing_index::lay_names` meets its contract. Assumes nothing.
use Rattle.stabbing_index.proofs.Laying.{names_laid, naming}
use Rattle.stabbing_index.proofs.lay_names.Goals as goal

pub name_rows-requires-clause-named : goal.name_rows-requires-clause-named
name_rows-requires-clause-named c = search naming

pub returns : goal.returns
returns c = names_laid c.name_rows.ensures c.lay.ensures c.lay-2.ensures
