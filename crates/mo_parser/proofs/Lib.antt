pub mod Turns
pub mod rules
pub mod fits
pub mod Faults
pub mod OneFault
