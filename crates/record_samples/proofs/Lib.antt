pub mod RowLaws
pub mod FieldLaws
pub mod ReadLaws
pub mod RecordLaws
pub mod StandardFacts
pub mod OrderLaws
pub mod MixedLaws
