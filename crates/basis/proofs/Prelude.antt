-- The names of the library that proofs use, passed on from one place. Assumes nothing.
pub use mathlib.Core.List.Memᴰ.{cases_cons as List·Memᴰ·cases-cons}
pub use mathlib.Core.List.Memᴰ.{head as List·Memᴰ·head}
pub use mathlib.Core.List.Memᴰ.{not-nil as List·Memᴰ·not-nil}
pub use mathlib.Core.List.Memᴰ.{tail as List·Memᴰ·tail}
pub use mathlib.Core.{Path.{◌∙◌, ◌≡◌, ap, fun_ext, refl, subst, sym}, List.{List, Memᴰ as List-as-Memᴰ, [], ◌++◌, ◌∷◌, append_assoc, append-nil, map, map-append, reverse, reverse-append, reverse-cons, reverse-reverse}, Bool.{Bool, ◌&&◌, ◌||◌, cond, false, false≢true, not, true, true≢false}, Logic.{◌↔◌, ◌≢◌, ◌⊎◌, inl, inr, ⊎_elim}}
pub use Prim.Native.Nat.compare.{suc-suc as compare·suc-suc}
pub use Prim.Native.Nat.{◌%◌, ◌*◌, ◌+◌, ◌-◌, ◌/◌, ◌<◌, ◌≤◌, min, suc, zero, zero-le, ℕ}
pub use lib.{Dec.{T, eqb, eqb→eq, is_le, leb, leb→le, le→leb, ltb}, ListN.{get_or-append as List·getD-append, get_or-eq_default as List·getD-eq-default, get_or-map as List·getD-map, drop, drop_of_length-le, get_or, get_or-replicate, length, length-append, length-drop, length-map, length-replicate, length-reverse, length-set, length-take, replicate, replicate-append-replicate, set, take, take-append-drop}, Seq.{append_snoc, drop-append-add, drop-append-le, drop_at, drop-cons, drop-drop, drop-length, drop-set-lt, ext_get_or, get_or-append-add, get_or-append_seam, get_or_at, get_or-drop, get_or-set_other, get_or-set_same, get_or-take, length-sets, length-slice, length-take-le, set_at, set_split, sets, sets-eq, slice, slice-cons, slice_empty, take-add, take_all, take-append-add, take-append_seam, take_at, take-length, take-set-le, take-suc, take-suc-set, take-take}}
pub use native.Mathlib.{Nat.{add_assoc, add-mul-div_left, add-mul-mod_self_left, add-zero, div-add-mod', div-eq_of_lt, le_refl, le_trans, min-le_left, min-le_right, mod-eq_of_lt, mul-le-mul_right, suc-mul, zero-add, zero-mul}, Numerals.{add_five, add-four, add-one, add_six, add-three, add-two}, Decide.dec_le, Omega.arith}
pub use borrow.Author.{Rules.rules, Tests.{eq-eqb, eqb-false, eqb-true, le-leb, le-ltb, leb-false, leb-true, lt-leb, lt-ltb, ltb-false, ltb-true, ne_eqb, not-false, not-true}}
pub use Rattle.basis.proofs.{Tests.{both, by_cases, by_eq, by_mark, by_test, clash, either, untrue}, Lists.unmapped}
