pub mod RateLaws
pub mod ReadLaws
pub mod SampleLaws
pub mod RecordLaws
pub mod StandardFacts
