pub mod Status
pub mod Paths
pub mod Serving
