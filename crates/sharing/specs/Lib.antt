pub mod Words
pub mod Carrying
pub mod History
pub mod Clauses
