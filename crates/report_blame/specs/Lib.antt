pub mod Reaches
pub mod Text
pub mod BlameText
pub mod DeviceRuns
pub mod BlameStays
pub mod Blaming
