pub mod Zones
pub mod ControlBits
pub mod Faults
pub mod Frames
pub mod Sent
pub mod Refusals
