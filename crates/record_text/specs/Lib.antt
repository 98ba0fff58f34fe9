pub mod Words
pub mod Lines
pub mod Fields
pub mod Numbers
pub mod Decimals
pub mod Signed
