pub mod Decided
pub mod Misled
