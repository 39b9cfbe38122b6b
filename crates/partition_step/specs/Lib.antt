pub mod Laws
pub mod Parts
pub mod Prepared
pub mod Steps
pub mod Writing
pub mod private
