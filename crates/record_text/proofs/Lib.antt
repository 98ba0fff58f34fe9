pub mod WordLaws
pub mod FieldLaws
pub mod StandardFacts
