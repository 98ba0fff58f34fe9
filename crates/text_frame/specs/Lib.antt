pub mod Letters
pub mod Frame
pub mod Reading
