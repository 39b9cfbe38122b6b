pub mod Kept
pub mod Stages
pub mod Stepping
