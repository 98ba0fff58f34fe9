pub mod SeenLaws
pub mod FitLaws
pub mod SearchLaws
pub mod StandardFacts
