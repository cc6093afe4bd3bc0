pub mod Blank
pub mod Entry
pub mod Order
pub mod Same
pub mod Listing
