pub mod Announced
pub mod Lines
pub mod CheckWord
pub mod States
pub mod Quiet
