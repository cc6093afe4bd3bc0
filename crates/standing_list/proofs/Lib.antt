pub mod Finding
mod Names
