pub mod Values
pub mod Reading
pub mod Changing
pub mod Edits
mod Names
