pub mod Names
pub mod InOrder
pub mod Laying
pub mod Links
pub mod DayTables
pub mod Assembling
