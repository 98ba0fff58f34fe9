pub mod AnyScenario
pub mod StationLogs
pub mod DeviceLogs
pub mod Scenarios
pub mod WhyRefused
