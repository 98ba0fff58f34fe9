pub mod Values
pub mod Places
pub mod Refused
pub mod Lines
