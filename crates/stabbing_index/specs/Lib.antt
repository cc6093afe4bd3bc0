pub mod Build
pub mod Clauses
