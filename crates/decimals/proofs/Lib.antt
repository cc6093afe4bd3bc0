pub mod Names
pub mod Decimals
pub mod Places
pub mod Puts
pub mod Rows
pub mod Claims
