pub mod Glitches
pub mod Pulses
pub mod Spreads
pub mod Views
pub mod Looks
pub mod Oddities
