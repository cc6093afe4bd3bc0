pub mod Each
pub mod Sorting
pub mod Members
pub mod Keys
