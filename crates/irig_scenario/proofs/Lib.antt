pub mod MeaningLaws
pub mod DeviceLines
pub mod DeviceReadLaws
pub mod DeviceLogLaws
pub mod ScenarioLaws
pub mod ListenLaws
pub mod StationLogFacts
