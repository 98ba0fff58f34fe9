pub mod Pulses
pub mod Rows
pub mod Changes
pub mod Lists
pub mod Order
