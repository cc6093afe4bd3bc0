pub mod Host
pub mod Claims
