pub mod Names
pub mod Runs
pub mod Claims
pub mod Tied
