-- `request_words::head_among` meets its contract. Assumes nothing.
use Rattle.basis.proofs.Prelude.{◌∙◌, sym}
use Rattle.request_words.proofs.Words.{head_here, head_later, head_none}
use Rattle.request_words.proofs.head_among.Goals as goal

pub returns-then-begins : goal.returns-then-begins
returns-then-begins c = head_here _ _ _ _ c.loop-word-test.true (sym c.begins.ensures ∙ c.if-begins.true) ∙ sym c.loop-word.invariant

pub loop-word-preserved : goal.loop-word-preserved
loop-word-preserved c = c.loop-word.invariant ∙ head_later _ _ _ _ c.loop-word-test.true (sym c.begins.ensures ∙ c.if-begins.false)

pub returns : goal.returns
returns c = head_none _ _ _ c.loop-word-test.false ∙ sym c.loop-word.invariant
