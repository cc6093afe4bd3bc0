pub mod Entered
pub mod Listing
pub mod Order
pub mod Sorted
pub mod Cases
