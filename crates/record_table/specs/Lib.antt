pub mod Titles
pub mod Heads
pub mod Whens
pub mod Stands
pub mod Rows
pub mod Changes
pub mod Tables
pub mod Order
