pub mod Standing
pub mod Places
pub mod Packed
pub mod Plans
