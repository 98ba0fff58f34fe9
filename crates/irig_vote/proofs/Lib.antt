pub mod CountLaws
pub mod NumberedLaws
pub mod StandardFacts
