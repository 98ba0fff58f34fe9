pub mod Units
pub mod Sections
pub mod Heads
pub mod Meanings
pub mod Changes
pub mod Dumps
pub mod Order
