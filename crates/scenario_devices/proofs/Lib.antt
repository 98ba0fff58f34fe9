pub mod ListLaws
pub mod RangeLaws
pub mod BuildLaws
pub mod ValueLaws
pub mod VersionLaws
pub mod StandardFacts
pub mod SoundStations
pub mod AskedLaws
