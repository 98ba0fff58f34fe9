pub mod Cells
pub mod Remarks
pub mod Rates
pub mod Units
pub mod Scales
pub mod Volts
