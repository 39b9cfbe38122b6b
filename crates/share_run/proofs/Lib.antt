pub mod Starts
pub mod Slots
pub mod Owned
pub mod Waiting
pub mod Kept
pub mod Solved
pub mod Quiet
