-- `hexadecimals::read_hex` meets its contract. Assumes nothing.
use Rattle.basis.proofs.Prelude.{◌≡◌, ◌-◌, ◌∙◌, arith, sym}
use Rattle.hexadecimals.proofs.{Hex.{digit_fits, digit_limit, value_fits}, Places.{digit_small, hex_all, hex_more, hex_none, hex_past}}
use Rattle.hexadecimals.proofs.read_hex.Goals as goal

pub loop-init : goal.loop-init
loop-init c = let all : c.args.digits - 0 ≡ c.args.digits = omega arith in (omega arith, rw all)

pub returns-in_err-b : goal.returns-in_err-b
returns-in_err-b c = rw c.from_residual.ensures (hex_past _ _ _ _ _ _ _ c.loop.invariant.1 c.loop-test.true c.in_err-b.ensures.lookup.3)

pub returns-in_err-d : goal.returns-in_err-d
returns-in_err-d c =
    let at = c.in_ok-b.ensures.lookup.3 in
    let none = rw (at.1 0) at (sym c.hex_value.ensures ∙ c.in_err-d.was) in
    rw c.from_residual-in_err-d.ensures (hex_none _ _ _ _ _ _ _ c.loop.invariant.1 c.loop-test.true at.0 none)

pub overflow_mul-v : goal.overflow_mul-v
overflow_mul-v c = omega (arith, value_fits _ _ _ _ c.requires c.loop-test.true c.loop.invariant.0 (digit_small _ _ (sym c.hex_value.ensures ∙ c.in_ok-d.was)))

pub overflow_add-v : goal.overflow_add-v
overflow_add-v c = omega (arith, digit_fits _ _ _ _ c.requires c.loop-test.true c.loop.invariant.0 (digit_small _ _ (sym c.hex_value.ensures ∙ c.in_ok-d.was)))

pub loop-preserved : goal.loop-preserved
loop-preserved c =
    let at = c.in_ok-b.ensures.lookup.3 in
    let digit = sym c.hex_value.ensures ∙ c.in_ok-d.was in (
      digit_limit _ _ _ _ c.requires c.loop-test.true c.loop.invariant.0 (digit_small _ _ digit),
      hex_more _ _ _ _ _ c.args.end _ c.loop.invariant.1 c.loop-test.true at.0 _ (rw (at.1 0) at digit),
    )

pub returns : goal.returns
returns c = hex_all _ _ _ _ _ _ _ c.loop.invariant.1 c.loop-test.false _ c.read_end.ensures
