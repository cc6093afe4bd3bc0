-- A service in words of 16 bits, and the service of any words. Assumes nothing.
use Rattle.std.specs.Prelude.{ℕ, ◌≡◌, List}
use Rattle.standing.specs.Packed as standing
use Rattle.service.specs.declared.Service.{Service}
use Rattle.service.specs.Places.{service_of}

-- the words of its standing list
abbrev pub packed : Service → List ℕ
packed sv = standing.packed sv.standing

abbrev pub unpacked : List ℕ → Service
unpacked l = service_of (standing.unpacked l)

-- l is sv in words, and reads back as sv
pub record Packs (sv : Service) (l : List ℕ) : Type 0 where
  pub words : l ≡ packed sv
  pub back : unpacked l ≡ sv
