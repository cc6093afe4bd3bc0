pub mod Lists
pub mod Search
pub mod Rows
pub mod Changing
pub mod Found
