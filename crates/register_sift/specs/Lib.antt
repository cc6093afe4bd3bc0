pub mod Sifting
pub mod Clauses
