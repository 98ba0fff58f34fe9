pub mod LimitLaws
pub mod StandardFacts
