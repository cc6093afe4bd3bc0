pub mod Places
pub mod Service
pub mod History
pub mod Packed
pub mod Clauses
