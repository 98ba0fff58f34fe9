pub mod RunLaws
pub mod EntryLaws
pub mod StandardFacts
pub mod TrueEntryLaws
mod WrittenLaws
mod StretchLaws
mod LaneLaws
mod ToldLaws
