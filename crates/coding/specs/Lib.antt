pub mod Coded
pub mod Coding
pub mod Clauses
