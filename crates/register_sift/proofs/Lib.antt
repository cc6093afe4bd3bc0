pub mod Names
pub mod Judging
pub mod Sifting
