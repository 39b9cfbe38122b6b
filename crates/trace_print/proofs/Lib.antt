pub mod Cells
pub mod Joins
pub mod Texts
