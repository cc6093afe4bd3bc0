-- What the test of a day says. Assumes nothing.
use Rattle.basis.proofs.Prelude.{◌≡◌, ◌≤◌, ℕ, true, leb, leb-true, both}
use Rattle.calendar.specs.Calendar.{is_day}

-- a day of the calendar is 1 to 4,000
pub dated : (d : ℕ) → is_day d ≡ true → (1 ≤ d) × (d ≤ 4000)
dated d e = let q = both (leb 1 d) (leb d 4000) e in (leb-true 1 d q.0, leb-true d 4000 q.1)
