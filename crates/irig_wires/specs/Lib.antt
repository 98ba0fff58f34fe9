pub mod Oscillator
pub mod Wires
pub mod Happenings
pub mod Order
pub mod Calls
