pub mod Text
pub mod Offsets
pub mod Whens
pub mod LogLines
pub mod PortWords
