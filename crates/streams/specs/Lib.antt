pub mod Stream
pub mod Advancing
pub mod History
