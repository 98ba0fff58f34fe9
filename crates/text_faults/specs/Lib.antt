pub mod Refusals
pub mod PortFaults
pub mod Numbers
