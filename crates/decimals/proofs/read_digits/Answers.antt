-- `decimals::read_digits` meets its contract. Assumes nothing.
use Rattle.decimals.proofs.{Names.{◌*◌, ◌+◌, ◌-◌, ◌∙◌, ◌≡◌, arith, get_or, sym}, Places.{digits_above, digits_more, digits_none, digits_past}}
use Rattle.decimals.proofs.read_digits.Goals as goal

pub returns-then-not-is_ascii_digit : goal.returns-then-not-is_ascii_digit
returns-then-not-is_ascii_digit c =
    digits_none _ _ _ _ _ c.loop-i.invariant.1 c.loop-i-test.true (sym c.is_ascii_digit.ensures.value ∙ c.if-not-is_ascii_digit.true)

pub returns-in_err-tens : goal.returns-in_err-tens
returns-in_err-tens c =
    let d = sym c.is_ascii_digit.ensures.value ∙ c.if-not-is_ascii_digit.false in
    rw c.from_residual.ensures (digits_above _ _ _ _ _ c.loop-i.invariant.1 c.loop-i-test.true d (omega (arith, c.in_err-tens.ensures)))

pub returns-in_err-v : goal.returns-in_err-v
returns-in_err-v c =
    let d = sym c.is_ascii_digit.ensures.value ∙ c.if-not-is_ascii_digit.false in
    rw c.from_residual-in_err-v.ensures (digits_above _ _ _ _ _ c.loop-i.invariant.1 c.loop-i-test.true d (omega (arith, c.in_ok-tens.ensures, c.in_err-v.ensures)))

pub returns-then-v-limit : goal.returns-then-v-limit
returns-then-v-limit c =
    let d = sym c.is_ascii_digit.ensures.value ∙ c.if-not-is_ascii_digit.false in
    digits_above _ _ _ _ _ c.loop-i.invariant.1 c.loop-i-test.true d (omega (arith, c.in_ok-tens.ensures, c.in_ok-v.ensures))

pub loop-i-preserved : goal.loop-i-preserved
loop-i-preserved c =
    let d = sym c.is_ascii_digit.ensures.value ∙ c.if-not-is_ascii_digit.false in
    let is : c.in_ok-v.v ≡ 10 * c.loop-i.v + (get_or c.args.text.now c.loop-i.i 0 - 48) = omega (arith, c.in_ok-tens.ensures, c.in_ok-v.ensures) in
    (omega arith, rw is (digits_more _ _ _ _ _ c.loop-i.invariant.1 c.loop-i-test.true d (omega arith)))

pub returns : goal.returns
returns c = digits_past _ _ _ _ _ c.loop-i.invariant.1 c.loop-i-test.false
