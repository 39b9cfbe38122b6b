pub mod Faults
pub mod N6
pub mod N7
pub mod Needs
pub mod private
