pub mod Search
pub mod List
