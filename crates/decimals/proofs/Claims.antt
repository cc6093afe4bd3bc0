-- What the decimals are for: a decimal that is written is read back, whatever follows it, and one that is read is what
-- is written of its value. Assumes nothing.
use Rattle.decimals.proofs.{Decimals.{length_back, read_length_lem, write_number}, Names.{List, ◌<◌, ◌≡◌, ◌≤◌, arith, decimal_of, found, number_text, read_length, read_number, wide_text, ℕ}}

-- a decimal up to 65,535, ended by a byte below the digits
pub number_read : (e n : ℕ) (rest : List ℕ) → e < 48 → n ≤ 65535 → read_number e (number_text n e rest) ≡ found n rest
number_read e n rest h k = unfold decimal_of in read_length_lem 65535 4 e n rest h k (omega arith)

pub number_written : (e : ℕ) (s : List ℕ) (n : ℕ) (rest : List ℕ) → read_number e s ≡ found n rest → (n ≤ 65535) × (s ≡ number_text n e rest)
number_written = write_number

-- and one up to any limit of 64 bits
module _ (limit e : ℕ) (h : limit ≤ 18446744073709551615) where
  pub wide_read : (n : ℕ) (rest : List ℕ) → e < 48 → n ≤ limit → read_length limit e (wide_text n e rest) ≡ found n rest
  wide_read n rest b k = read_length_lem limit 19 e n rest b k (omega arith)

  pub wide_written : (s : List ℕ) (n : ℕ) (rest : List ℕ) → read_length limit e s ≡ found n rest → (n ≤ limit) × (s ≡ wide_text n e rest)
  wide_written s n rest r = let w = length_back limit 19 e s n rest r in (w.0, w.1 (omega arith))
