-- `decimals::read_length` meets its contract. Assumes nothing.
use Rattle.decimals.proofs.{Names.{◌∙◌, sym}, Places.{decimal_digits, decimal_none, decimal_past, decimal_zero}}
use Rattle.decimals.proofs.read_length.Goals as goal

pub returns-in_err-b : goal.returns-in_err-b
returns-in_err-b c = rw c.from_residual.ensures (decimal_past _ _ _ _ c.in_err-b.ensures.lookup.3)

pub returns-then-b-eq48 : goal.returns-then-b-eq48
returns-then-b-eq48 c =
    let at = c.in_ok-b.ensures.lookup.3 in
    decimal_zero _ _ _ _ at.0 (sym (at.1 0) ∙ c.if-b-eq48.true) _ c.read_end.ensures

pub returns-then-not-is_ascii_digit : goal.returns-then-not-is_ascii_digit
returns-then-not-is_ascii_digit c =
    let at = c.in_ok-b.ensures.lookup.3 in
    let none = sym c.is_ascii_digit.ensures.value ∙ c.if-not-is_ascii_digit.true in
    decimal_none _ _ _ _ at.0 (λ z. c.if-b-eq48.false (at.1 0 ∙ z)) (rw (at.1 0) at none)

pub returns : goal.returns
returns c =
    let at = c.in_ok-b.ensures.lookup.3 in
    let digit = sym c.is_ascii_digit.ensures.value ∙ c.if-not-is_ascii_digit.false in
    decimal_digits _ _ _ _ at.0 (λ z. c.if-b-eq48.false (at.1 0 ∙ z)) (rw (at.1 0) at digit) _ _ c.read_digits-value.ensures c.read_end-2.ensures
