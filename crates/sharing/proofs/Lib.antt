pub mod Words
pub mod Carrying
pub mod Claims
