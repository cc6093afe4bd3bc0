pub mod Names
pub mod Layouts
pub mod Announced
pub mod Asking
pub mod Enough
pub mod Claims
pub mod Cases
