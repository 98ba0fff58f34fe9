pub mod ControlTable
pub mod Control
pub mod Parity
