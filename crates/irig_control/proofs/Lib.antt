pub mod ControlLaws
pub mod OnesLaws
pub mod ParityLaws
pub mod ParityKeeps
pub mod StandardFacts
