-- `register_line::read_line` meets its contract: each field is read where the one before it ended. Assumes nothing.
use Rattle.basis.proofs.Prelude.{refl}
use Rattle.fields.proofs.Places.{read_last, read_on, unread}
use Rattle.register.specs.Text.{read_line}
use Rattle.register_line.proofs.read_line.Goals as goal

pub returns-in_default : goal.returns-in_default
unfolding read_line
returns-in_default c = unread _ _ c.read_number.ensures.says _ c.in_default.is refl

pub returns-in_default-read_number : goal.returns-in_default-read_number
unfolding read_line
returns-in_default-read_number c =
    read_on _ _ c.read_number.ensures.says _ _ _ c.in-Some.is
    (unread _ _ c.read_number-2.ensures.says _ c.in_default-read_number.is refl)

pub returns-in_default-read_number-2 : goal.returns-in_default-read_number-2
unfolding read_line
returns-in_default-read_number-2 c =
    read_on _ _ c.read_number.ensures.says _ _ _ c.in-Some.is
    (read_on _ _ c.read_number-2.ensures.says _ _ _ c.in-Some-read_number.is
    (unread _ _ c.read_number-3.ensures.says _ c.in_default-read_number-2.is refl))

pub returns-in_default-read_number-3 : goal.returns-in_default-read_number-3
unfolding read_line
returns-in_default-read_number-3 c =
    read_on _ _ c.read_number.ensures.says _ _ _ c.in-Some.is
    (read_on _ _ c.read_number-2.ensures.says _ _ _ c.in-Some-read_number.is
    (read_on _ _ c.read_number-3.ensures.says _ _ _ c.in-Some-read_number-2.is
    (unread _ _ c.read_number-4.ensures.says _ c.in_default-read_number-3.is refl)))

pub returns-in_default-read_urgency : goal.returns-in_default-read_urgency
unfolding read_line
returns-in_default-read_urgency c =
    read_on _ _ c.read_number.ensures.says _ _ _ c.in-Some.is
    (read_on _ _ c.read_number-2.ensures.says _ _ _ c.in-Some-read_number.is
    (read_on _ _ c.read_number-3.ensures.says _ _ _ c.in-Some-read_number-2.is
    (read_on _ _ c.read_number-4.ensures.says _ _ _ c.in-Some-read_number-3.is
    (unread _ _ c.read_urgency.ensures.says _ c.in_default-read_urgency.is refl))))

pub returns : goal.returns
unfolding read_line
returns c =
    read_on _ _ c.read_number.ensures.says _ _ _ c.in-Some.is
    (read_on _ _ c.read_number-2.ensures.says _ _ _ c.in-Some-read_number.is
    (read_on _ _ c.read_number-3.ensures.says _ _ _ c.in-Some-read_number-2.is
    (read_on _ _ c.read_number-4.ensures.says _ _ _ c.in-Some-read_number-3.is
    (read_last _ _ c.read_urgency.ensures _ _ _ c.in-Some-read_urgency.is refl))))
