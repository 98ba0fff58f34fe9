pub mod Symbols
pub mod FieldTable
pub mod Values
pub mod Decoder
pub mod Faults
pub mod Encoder
