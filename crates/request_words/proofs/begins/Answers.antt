-- `request_words::begins` meets its contract. Assumes nothing.
use Rattle.basis.proofs.Prelude.{◌∙◌}
use Rattle.request_words.proofs.Words.{starts}
use Rattle.request_words.proofs.begins.Goals as goal

pub returns : goal.returns
returns c = c.starts_with.ensures.value ∙ starts _ _
