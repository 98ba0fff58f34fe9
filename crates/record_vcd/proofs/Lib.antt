pub mod DumpLaws
pub mod HeadLaws
pub mod FileLaws
pub mod StandardFacts
pub mod OrderLaws
