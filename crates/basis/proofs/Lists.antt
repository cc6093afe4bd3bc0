-- Lists of whatever elements. Assumes nothing.
use Prim.Native.Nat.{ℕ}
use mathlib.Core.{List.{List, map}, Path.{◌≡◌, sym, ◌∙◌}}
use lib.ListN.{length, length-map}

-- an array of structs: the checker knows the length of the list of the elements' parts
pub unmapped : {X Y : Type 0} (f : X → Y) (l : List X) (n : ℕ) → length (map f l) ≡ n → length l ≡ n
unmapped f l n h = sym (length-map l f) ∙ h
