-- `readings::reading_of` meets its contract. Assumes nothing.
use Rattle.basis.proofs.Prelude.{◌∙◌, ◌≡◌, refl, sym, le-ltb, lt-ltb, T}
use lib.Ieee.{Float, nan, inf, fin, is_nan, binary32, div, of_bits, Bits.{nan_bits_is, nan_bits_above}}
use Rattle.readings.proofs.reading_of.Goals as goal

nan_alone : (x : Float) → T (is_nan x) → x ≡ nan
unfolding is_nan
nan_alone nan t = refl
nan_alone (inf s) t = absurd t
nan_alone (fin s m e) t = absurd t

no_number_lem : div binary32 (of_bits binary32 0) (of_bits binary32 0) ≡ nan
unfolding div of_bits
no_number_lem = refl

pub returns-then-n-gt2139095040 : goal.returns-then-n-gt2139095040
unfolding div of_bits
returns-then-n-gt2139095040 c = let n = c.args.n in
    no_number_lem ∙ sym (nan_alone (of_bits binary32 n) (rw (sym (nan_bits_is binary32 n) ∙ nan_bits_above binary32 n ∙ lt-ltb _ _ c.if-n-gt2139095040.true) tt))

pub float_from_bits-result : goal.float_from_bits-result
unfolding div of_bits
float_from_bits-result c = rw (nan_bits_above binary32 c.args.n ∙ le-ltb _ _ c.if-n-gt2139095040.false) tt
