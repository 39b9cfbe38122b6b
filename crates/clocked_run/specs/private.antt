pub mod Putting
pub mod Tasks
