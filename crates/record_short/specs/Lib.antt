pub mod Seen
pub mod Fits
pub mod Searches
