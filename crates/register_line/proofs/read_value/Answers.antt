-- `register_line::read_value` meets its contract. Assumes nothing.
use Rattle.basis.proofs.Prelude.{arith, eq-eqb, ne_eqb, refl}
use Rattle.fields.proofs.Places.{read_last, said, unread}
use Rattle.hexadecimals.proofs.Hex.{write_bits}
use Rattle.register.specs.Text.{read_value}
use Rattle.register_line.proofs.read_value.Goals as goal

pub returns-in_err-g : goal.returns-in_err-g
unfolding read_value
returns-in_err-g c = rw (eq-eqb _ _ c.if-letter-eq71.true) (unread _ _ c.read_number.ensures.says _ c.in_err-g.was c.from_residual.ensures)

pub returns-then-letter-eq71 : goal.returns-then-letter-eq71
unfolding read_value
returns-then-letter-eq71 c = rw (eq-eqb _ _ c.if-letter-eq71.true) (read_last _ _ c.read_number.ensures _ _ _ c.in_ok-g.was refl)

pub returns-in_err-n : goal.returns-in_err-n
unfolding read_value
returns-in_err-n c = rw (ne_eqb _ _ c.if-letter-eq71.false) (unread _ _ c.read_bits.ensures.says _ c.in_err-n.was c.from_residual-in_err-n.ensures)

pub overflow_cast-n : goal.overflow_cast-n
overflow_cast-n c = omega (arith, write_bits _ _ _ _ (said c.read_bits.ensures c.in_ok-n.was))

pub returns : goal.returns
unfolding read_value
returns c = rw (ne_eqb _ _ c.if-letter-eq71.false, c.reading_of-x.ensures) (read_last _ _ c.read_bits.ensures _ _ _ c.in_ok-n.was refl)
