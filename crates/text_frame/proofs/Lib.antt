pub mod ReadBack
pub mod ReadLetters
pub mod ReadingLaws
pub mod StandardFacts
