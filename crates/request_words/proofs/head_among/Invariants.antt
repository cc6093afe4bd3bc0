-- The line begins with no word of the rows so far: its head is that by the rows left. Assumes nothing.
use Rattle.basis.proofs.Prelude.{◌≡◌, drop}
use Rattle.request_words.specs.Clauses.{head_among, rows_of}
use Rattle.request_words.proofs.head_among.Given as goal

abbrev pub invariant-loop-word : goal.invariant-loop-word
invariant-loop-word l = head_among (rows_of l.rows) l.line ≡ head_among (rows_of (drop l.word-index l.rows)) l.line
