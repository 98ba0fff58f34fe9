pub mod TableLaws
pub mod HeadLaws
pub mod FileLaws
pub mod OrderLaws
pub mod NameLaws
pub mod StandardFacts
