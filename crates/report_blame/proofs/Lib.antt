pub mod CarrierLaws
pub mod ReachLaws
pub mod ExtremeLaws
pub mod ObserverLaws
pub mod DeviceLaws
pub mod RunLaws
pub mod StandardFacts
