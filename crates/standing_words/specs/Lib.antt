pub mod Edits
pub mod Clauses
