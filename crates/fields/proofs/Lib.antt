pub mod Bytes
pub mod Widths
pub mod Places
pub mod Puts
pub mod Cases
