pub mod Preparing
pub mod Runners
