pub mod SeenLaws
pub mod ReadLaws
pub mod ListLaws
pub mod OrderLaws
pub mod StandardFacts
