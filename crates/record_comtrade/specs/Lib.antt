pub mod Texts
pub mod Configs
pub mod Reads
pub mod Times
pub mod Samples
pub mod Data
pub mod Records
