pub mod Stepping
pub mod HoldLaws
pub mod StandardFacts
