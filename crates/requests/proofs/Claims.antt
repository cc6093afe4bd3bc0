-- What a line asks, in the words of the protocol. Assumes nothing.
use Rattle.basis.proofs.Prelude.{◌≡◌, refl, ◌+◌, ℕ, List}
use Rattle.requests.proofs.{Names.{read_line, Enter, EnterWord, asks, asking, ended, asked_by, asked_of}, Enough.days_room}
use Rattle.requests.specs.declared.Layout.TheVariants.{Spell}

-- THE FIELDS OF `enter` are read exactly as those of a register line, with nothing after its LF
pub enter_line : (room : ℕ) (s : List ℕ) → asked_by (Spell EnterWord) room s ≡ asking (read_line s) (λ x. ended (asks (Enter x)))
unfolding asked_by
enter_line room s = refl

-- A LINE'S DAYS: room for 32,768 is enough for those of every line, and more room changes nothing
pub days_suffice : (more : ℕ) (s : List ℕ) → asked_of 32768 s ≡ asked_of (32768 + more) s
days_suffice = days_room
