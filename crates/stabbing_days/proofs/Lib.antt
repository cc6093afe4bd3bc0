pub mod Skipping
pub mod Several
