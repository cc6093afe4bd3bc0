-- The index of rows in the order. Assumes nothing.
use Rattle.std.specs.Prelude.{ℕ, Bool, List}
use Rattle.row_order.specs.Rows.{arranged_column}
use Rattle.stabbing_index.specs.Build.{Builds}

-- the index of the first n rows, in the order, is built, as `stabbing_index::build` builds it
abbrev pub Lays : List ℕ → List ℕ → List ℕ → List ℕ → ℕ → List ℕ → Bool → List ℕ → Type 0
Lays number candidate first last n =
    Builds (arranged_column number candidate first last n number) (arranged_column number candidate first last n first) (arranged_column number candidate first last n last) n
