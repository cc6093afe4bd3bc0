pub mod Names
pub mod Cases
pub mod Keeping
pub mod Remarks
pub mod Claims
