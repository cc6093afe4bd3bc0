pub mod Gathering
