pub mod QualityLaws
