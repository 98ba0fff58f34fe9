pub mod LaneLaws
pub mod EventLaws
pub mod DeviceLaws
pub mod LongestLaws
pub mod StretchLaws
pub mod StandardFacts
