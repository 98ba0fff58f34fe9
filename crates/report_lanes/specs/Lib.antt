pub mod Lanes
pub mod OpenLanes
pub mod DeviceScenes
pub mod DeviceRuns
pub mod Scenes
pub mod Runs
pub mod LongestRuns
