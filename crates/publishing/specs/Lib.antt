pub mod Clauses
pub mod Lays
