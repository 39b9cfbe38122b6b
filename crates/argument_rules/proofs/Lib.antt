pub mod Checks
pub mod Leaves
pub mod Repeats
