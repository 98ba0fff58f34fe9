mod NumberLaws
pub mod StandardFacts
