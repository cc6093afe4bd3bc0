pub mod Claims
pub mod Shapes
pub mod Cases
