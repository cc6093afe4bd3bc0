pub mod Replies
pub mod Sending
pub mod Fitting
