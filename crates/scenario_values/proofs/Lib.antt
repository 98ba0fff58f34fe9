pub mod ListLaws
pub mod NameLaws
pub mod NameCounts
pub mod ValueLaws
pub mod StandardFacts
