pub mod Json
pub mod Keywords
pub mod Keys
pub mod Fields
