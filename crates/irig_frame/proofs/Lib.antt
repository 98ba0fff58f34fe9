pub mod ReadingLaws
pub mod WritingLaws
pub mod EncodingLaws
pub mod OneFrame
pub mod StandardFacts
