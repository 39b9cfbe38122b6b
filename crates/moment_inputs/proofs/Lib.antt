pub mod Searching
pub mod SetInputs
