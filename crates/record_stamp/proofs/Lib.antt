pub mod LateLaws
pub mod ZoneLaws
pub mod StandardFacts
