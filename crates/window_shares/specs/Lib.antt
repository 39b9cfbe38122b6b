pub mod Laws
pub mod Running
pub mod Sharing
pub mod Stopping
