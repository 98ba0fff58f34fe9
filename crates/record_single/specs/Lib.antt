pub mod Sections
pub mod Singles
pub mod Heads
