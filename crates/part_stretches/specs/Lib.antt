pub mod Parts
pub mod Running
