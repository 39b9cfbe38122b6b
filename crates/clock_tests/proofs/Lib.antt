pub mod Constants
pub mod Declared
pub mod Steps
pub mod Whole
