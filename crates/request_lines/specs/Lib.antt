pub mod Clauses
