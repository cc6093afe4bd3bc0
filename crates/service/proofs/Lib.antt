pub mod Names
pub mod Represented
pub mod Asking
pub mod Editing
pub mod Beginning
pub mod Claims
pub mod Tied
