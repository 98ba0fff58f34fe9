pub mod StationLineLaws
pub mod NumberLaws
pub mod StationReadLaws
pub mod EventLaws
pub mod StretchLaws
pub mod SceneFacts
