pub mod Host
pub mod History
