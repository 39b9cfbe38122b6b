pub mod Absent
pub mod Counts
pub mod Shapes
