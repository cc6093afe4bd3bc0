pub mod Names
pub mod Building
