pub mod GlitchLaws
pub mod PulseLaws
pub mod ViewLaws
pub mod LookLaws
pub mod StandardFacts
