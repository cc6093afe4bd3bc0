pub mod Repair
pub mod Answers
