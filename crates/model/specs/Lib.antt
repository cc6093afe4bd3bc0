pub mod Edits
pub mod Publishing
pub mod Questions
pub mod Effects
pub mod Model
pub mod Reached
pub mod Journal
