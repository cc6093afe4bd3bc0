-- The names of other crates and of the definitions that the proofs use, passed on from one place. Assumes nothing.
pub use Rattle.basis.proofs.Prelude.{Bool, List, ◌<◌, ◌∙◌, ◌≡◌, sym, ◌≢◌, arith, cond, false, lt-ltb, ne_eqb, rules, refl, true, ℕ}
pub use Rattle.std.specs.Int.{from_bool}
pub use Rattle.service.{proofs.Tied.Is, specs.{Packed.unpacked, Service.{Given, blocks}}}
pub use Rattle.sharing.{proofs.{Carrying.{change_none, change_packed, changed_requested, done_requested, edit_carried, edit_turned, edits_requested, held_requested, lent, unpacked_given, wanted_requested}, Words.{power_high, power_mid}}, specs.{Carrying.Requested, declared.Carried.Carried}}
unfoldable pub use Rattle.sharing.specs.Words.{changed_at, power_of}
pub use contract.Lifetimes.{Lfts}
pub use denote.Ref.{Bor}
