pub mod ScaleLaws
pub mod StandardFacts
