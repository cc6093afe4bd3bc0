pub mod Arranged
pub mod Rows
