-- What the hex digits are for: a field that is written is read back, whatever follows it, and a field that is read is what
-- is written of its value. Assumes nothing.
use Rattle.basis.proofs.Prelude.{◌≡◌, refl, ◌<◌, ℕ, List, ◌∷◌, eq-eqb}
use Rattle.fields.specs.Fields.{found, passed, read_hex, read_bits, bits_text}
use Rattle.hexadecimals.proofs.Hex.{read_hex_lem, write_bits}

-- eight hex digits of 32 bits, ended by any byte
pub bits_read : (e n : ℕ) (rest : List ℕ) → n < 4294967296 → read_bits e (bits_text n e rest) ≡ found n rest
bits_read e n rest h = unfold passed read_hex in rw (read_hex_lem 8 0 n (e ∷ rest) h, eq-eqb e e refl)

pub bits_written : (e : ℕ) (s : List ℕ) (n : ℕ) (rest : List ℕ) → read_bits e s ≡ found n rest → (n < 4294967296) × (s ≡ bits_text n e rest)
bits_written = write_bits
