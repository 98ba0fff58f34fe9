pub mod Setups
pub mod StationShape
pub mod StationValues
pub mod StationLine
pub mod StationForms
pub mod StationEvents
