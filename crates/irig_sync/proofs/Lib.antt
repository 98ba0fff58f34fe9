pub mod LineLaws
pub mod EdgeLaws
pub mod FaultLaws
pub mod CostLaws
pub mod StandardFacts
pub mod FaultFacts
