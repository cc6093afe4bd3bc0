-- What the fields of a line answer, as the readers found them one after another. Assumes nothing.
use Rattle.basis.proofs.Prelude.{◌≡◌, ◌⊎◌, inl, inr, ◌+◌, ◌<◌, ◌≤◌, ℕ, List, false, true, drop, get_or, length, ne_eqb}
use Rattle.fields.{specs.Fields.{found, unreadable, is_at}, proofs.Places.{here, past_end, passed_not, passed_at}}
use Rattle.register.specs.Text.{is_letter, read_letter}

-- ---- the letter and its tab
pub letter_is : (b : ℕ) → ((b ≡ 71 → ⊥) × b ≡ 67) ⊎ (b ≡ 71) → is_letter b ≡ true
letter_is b (inl p) = rw p.1
letter_is b (inr e) = rw e

module _ (s : List ℕ) (i : ℕ) where
  pub letter_past : length s ≤ i → unreadable ≡ read_letter (drop i s)
  letter_past h = unfold read_letter in rw (past_end s i h)

  module _ (h : i < length s) where
    pub letter_other : (get_or s i 0 ≡ 71 → ⊥) → (get_or s i 0 ≡ 67 → ⊥) → unreadable ≡ read_letter (drop i s)
    letter_other g k = unfold read_letter in rw (here s i h, ne_eqb (get_or s i 0) 71 g, ne_eqb (get_or s i 0) 67 k)

    module _ (is : is_letter (get_or s i 0) ≡ true) where
      pub letter_alone : is_at s (i + 1) 9 ≡ false → unreadable ≡ read_letter (drop i s)
      letter_alone m = unfold read_letter in rw (here s i h, is, passed_not s (i + 1) 9 (get_or s i 0) m)

      pub letter_there : is_at s (i + 1) 9 ≡ true → found (get_or s i 0) (drop (i + 1 + 1) s) ≡ read_letter (drop i s)
      letter_there m = unfold read_letter in rw (here s i h, is, passed_at s (i + 1) 9 (get_or s i 0) m)
