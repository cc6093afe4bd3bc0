-- The names of other crates that the proofs use, passed on from one place. Assumes nothing.
pub use Rattle.basis.proofs.Prelude.{◌∙◌, ◌≡◌, refl, sym, ◌+◌, ◌-◌, ◌<◌, ◌≤◌, suc, zero-le, ℕ, List, Bool, true, false, leb, get_or, length, take, length-take-le, arith, leb-true, both, by_eq, clash, rules}
