pub mod Axis
pub mod Course
pub mod Fraction
pub mod Grid
pub mod Leaves
