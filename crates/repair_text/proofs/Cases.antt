-- Lines of the protocol's example, and a refused text's, computed. Assumes nothing.
use Rattle.basis.proofs.Prelude.{◌≡◌, refl, [], ◌∷◌}
use Rattle.fields.specs.Fields.{digits_of}
use Rattle.repair_text.specs.Lines.{dropped_line, refused_line, repaired_line}

-- `dropped` 2 12, `refused` 12 0 and `repaired` 44 5 1
lines_said :
    (dropped_line 2 12 ≡ 100 ∷ 114 ∷ 111 ∷ 112 ∷ 112 ∷ 101 ∷ 100 ∷ 9 ∷ 50 ∷ 9 ∷ 49 ∷ 50 ∷ 10 ∷ [])
    × (refused_line 12 0 ≡ 114 ∷ 101 ∷ 102 ∷ 117 ∷ 115 ∷ 101 ∷ 100 ∷ 9 ∷ 49 ∷ 50 ∷ 9 ∷ 48 ∷ 10 ∷ [])
    × (repaired_line 44 5 1 ≡ 114 ∷ 101 ∷ 112 ∷ 97 ∷ 105 ∷ 114 ∷ 101 ∷ 100 ∷ 9 ∷ 52 ∷ 52 ∷ 9 ∷ 53 ∷ 9 ∷ 49 ∷ 10 ∷ [])
unfolding digits_of
lines_said = (refl, refl, refl)
