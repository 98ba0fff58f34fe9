pub mod ReadingLaws
pub mod PartLaws
pub mod TableLaws
pub mod RecordLaws
pub mod HearingLaws
pub mod SingleLaws
