pub mod Journal
pub mod Words
pub mod Past
pub mod Cases
