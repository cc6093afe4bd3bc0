pub mod Hex
pub mod Places
pub mod Puts
pub mod Claims
