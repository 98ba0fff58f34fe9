pub mod HeadLaws
pub mod StandardFacts
