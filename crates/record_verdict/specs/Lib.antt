pub mod Tales
pub mod Stretches
pub mod Lines
pub mod Jumps
pub mod Ended
pub mod Zeros
pub mod Verdicts
pub mod Naming
