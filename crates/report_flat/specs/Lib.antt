pub mod EventText
pub mod Recording
pub mod FlatText
pub mod RowText
pub mod RowStays
pub mod Flattening
