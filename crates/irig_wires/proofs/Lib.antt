pub mod OscillatorLaws
pub mod WireLaws
pub mod CallLaws
pub mod OrderLaws
pub mod StandardFacts
