pub mod Cells
pub mod Changed
pub mod Frames
pub mod Starts
pub mod Takes
pub mod private
