-- `request_words::head_of` meets its contract: the rows of the program's table are those of the protocol's. Assumes nothing.
use Rattle.basis.proofs.Prelude.{◌∙◌}
use Rattle.requests.specs.Words.{table}
use Rattle.request_words.proofs.Words.{head_is}
use Rattle.request_words.proofs.head_of.Goals as goal

pub returns : goal.returns
unfolding table
returns c = c.head_among.ensures ∙ head_is table _
