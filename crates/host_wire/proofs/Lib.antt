pub mod Names
pub mod Tied
