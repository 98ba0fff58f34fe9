pub mod Vote
pub mod Counts
