pub mod Names
pub mod Widths
pub mod Ordered
pub mod Lines
pub mod Texts
pub mod Claims
pub mod Cases
