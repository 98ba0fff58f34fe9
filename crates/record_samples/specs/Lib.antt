pub mod Rows
pub mod Readers
pub mod Records
pub mod Order
pub mod Lines
pub mod Mixed
