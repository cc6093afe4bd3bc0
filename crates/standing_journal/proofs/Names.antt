-- The names of other crates that the proofs use, passed on from one place. Assumes nothing.
pub use Rattle.journal.proofs.Journal.{push_full, push_room}
