pub mod Parsed
pub mod DayLists
