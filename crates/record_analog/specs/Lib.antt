pub mod Numbers
pub mod Gauges
