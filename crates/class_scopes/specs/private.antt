pub mod Reaching
pub mod Sources
