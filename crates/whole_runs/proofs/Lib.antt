pub mod Counting
pub mod Onward
pub mod SetCells
pub mod Taking
pub mod Whole
