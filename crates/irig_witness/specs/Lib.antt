pub mod Elements
pub mod TrueFrames
pub mod Witness
pub mod Watches
pub mod Promise
pub mod Devices
pub mod Unfinished
