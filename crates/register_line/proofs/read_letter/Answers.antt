-- `register_line::read_letter` meets its contract. Assumes nothing.
use Rattle.basis.proofs.Prelude.{◌∙◌, sym}
use Rattle.register_line.proofs.Places.{letter_alone, letter_is, letter_other, letter_past, letter_there}
use Rattle.register_line.proofs.read_letter.Goals as goal

pub returns-in_err-b : goal.returns-in_err-b
returns-in_err-b c = rw c.from_residual.ensures (letter_past _ _ c.in_err-b.ensures.lookup.3)

pub returns-then-b-ne67 : goal.returns-then-b-ne67
returns-then-b-ne67 c =
    let at = c.in_ok-b.ensures.lookup.3 in
    letter_other _ _ at.0 (rw (at.1 0) at c.if-b-ne71.true) (rw (at.1 0) at c.if-b-ne67.true)

pub returns-then-not-is_at : goal.returns-then-not-is_at
returns-then-not-is_at c =
    let at = c.in_ok-b.ensures.lookup.3 in
    let letter = rw (at.1 0) at (letter_is _ c.else-b-ne71.either) in
    letter_alone _ _ at.0 letter (sym c.is_at.ensures ∙ c.if-not-is_at.true)

pub returns : goal.returns
returns c =
    let at = c.in_ok-b.ensures.lookup.3 in
    let letter = rw (at.1 0) at (letter_is _ c.else-b-ne71.either) in
    rw (at.1 0) (letter_there _ _ at.0 letter (sym c.is_at.ensures ∙ c.if-not-is_at.false))
