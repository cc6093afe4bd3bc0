pub mod Places
pub mod Plans
pub mod Loading
pub mod Packed
pub mod Cases
mod Names
