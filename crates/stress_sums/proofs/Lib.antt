pub mod Alike
pub mod Counts
