pub mod Prelude
pub mod Tests
pub mod Lists
