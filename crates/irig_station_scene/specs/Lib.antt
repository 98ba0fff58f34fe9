pub mod StationText
pub mod StationLines
pub mod StationScenes
pub mod StationTexts
pub mod StationStays
pub mod StationListening
pub mod StationRuns
pub mod StationHeard
