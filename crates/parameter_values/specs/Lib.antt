pub mod Values
pub mod Givens
pub mod Outcomes
pub mod Slots
