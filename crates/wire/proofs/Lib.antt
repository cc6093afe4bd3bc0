pub mod Tied
pub mod Cases
