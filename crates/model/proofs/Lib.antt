pub mod Effects
pub mod Filter
pub mod Bridge
pub mod Claims
pub mod Checks
pub mod Edits
pub mod Publishing
pub mod Asked
pub mod Editing
pub mod Journal
pub mod Runs
pub mod Cases
mod Names
