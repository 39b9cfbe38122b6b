pub mod Dots
pub mod Groups
pub mod Lowerings
