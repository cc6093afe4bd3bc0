pub mod Sending
pub mod Fitting
pub mod Cases
